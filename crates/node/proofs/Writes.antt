-- What is written at an index that was found by a count is what a decision writes. Assumes nothing.
use Prim.Native.Nat.{ℕ}
use mathlib.Core.Path.{◌≡◌, refl, ap, ◌∙◌}
use mathlib.Core.Bool.{Bool, true, false}
use mathlib.Core.List.{List}
use lib.ListN.{length}
use Rattle.nib.specs.Neighbors.{entries_of}
use Rattle.nib.specs.declared.NwkNeighbor.{NwkNeighbor}
use Rattle.nib.specs.declared.NeighborTable.{NeighborTable}
use Rattle.nib.specs.NeighborTable.{on_entries, marked, adopted, all_cleared, potential_cleared_at}
use Rattle.nib.proofs.Entries.{on-on, on_same, entries-on, marked-long, adopted-long, potential-long}
use Rattle.candidates.specs.Tries.{tried_index, next_index, taking, adopted_next, joined_tried, potential_cleared_tried}
use Rattle.candidates.specs.declared.tries.Candidates.{Candidates}
use Rattle.operation.specs.declared.Move.{Move}
use Rattle.operation.specs.declared.Move.TheVariants.{Stay, TakeNext, AdoptNext, JoinTried}
use Rattle.node.specs.declared.State.{State}
use Rattle.node.specs.Looks.{with_table, with_candidates, entries, moved, potential_cleared}

-- a change of the entries that keeps their count
entries-long : (f : List NwkNeighbor → List NwkNeighbor) (t : NeighborTable) → length (f (entries_of t)) ≡ length (entries_of t) → length (entries_of (on_entries f t)) ≡ length (entries_of t)
entries-long f t h = ap length (entries-on f t h) ∙ h

-- a change at an index that was looked up among the entries
module _ (t : NeighborTable) (c : Candidates) where
  cleared-tried : on_entries (potential_cleared_at (tried_index (length (entries_of t)) c)) t ≡ on_entries (potential_cleared_tried c) t
  unfolding potential_cleared_tried
  cleared-tried = on_same _ (potential_cleared_tried c) t refl

  cleared-long : length (entries_of (on_entries (potential_cleared_tried c) t)) ≡ length (entries_of t)
  unfolding potential_cleared_tried
  cleared-long = entries-long (potential_cleared_tried c) t (potential-long _ (entries_of t))

  adopted-next : on_entries (adopted (next_index (length (entries_of t)) c)) t ≡ on_entries (adopted_next c) t
  unfolding adopted_next
  adopted-next = on_same _ (adopted_next c) t refl

  next-long : length (entries_of (on_entries (adopted_next c) t)) ≡ length (entries_of t)
  unfolding adopted_next
  next-long = entries-long (adopted_next c) t (adopted-long _ (entries_of t))

  joined-tried : on_entries all_cleared (on_entries (marked (tried_index (length (entries_of t)) c)) t) ≡ on_entries (joined_tried c) t
  unfolding joined_tried
  joined-tried =
      let i = tried_index (length (entries_of t)) c in
      on-on (marked i) t (marked-long i (entries_of t)) all_cleared ∙ on_same _ (joined_tried c) t refl

-- the candidate being tried is no longer a potential parent, or stays as it is
pub clear-is : (b : Bool) (s : State) (n i : ℕ) (t : NeighborTable) → b ≡ true → n ≡ length (entries s) → i ≡ tried_index n s.candidates → t ≡ on_entries (potential_cleared_at i) s.table → with_table t s ≡ potential_cleared b s
unfolding potential_cleared
clear-is b s n i t hb hn hi ht =
    rw (hb, ht, hi, hn) (ap (λ (x : NeighborTable). with_table x s) (cleared-tried s.table s.candidates))

pub keep-is : (b : Bool) (s : State) → b ≡ false → s ≡ potential_cleared b s
unfolding potential_cleared
keep-is b s hb = rw hb

pub clear-long : (b : Bool) (s : State) → length (entries (potential_cleared b s)) ≡ length (entries s)
unfolding potential_cleared
clear-long true s = cleared-long s.table s.candidates
clear-long false s = refl

-- what a decision does with the candidates, found by the count of the entries
module _ (m : Move) (s : State) where
  pub stay-is : m ≡ Stay → s ≡ moved m s
  unfolding moved
  stay-is hm = rw hm

  pub take-is : (n : ℕ) (c : Candidates) → m ≡ TakeNext → n ≡ length (entries s) → c ≡ taking n s.candidates → with_candidates c s ≡ moved m s
  unfolding moved
  take-is n c hm hn hc = rw (hm, hc, hn)

  pub adopt-is : (n i : ℕ) (t : NeighborTable) (c : Candidates) → m ≡ AdoptNext → n ≡ length (entries s) → i ≡ next_index n s.candidates → t ≡ on_entries (adopted i) s.table → c ≡ taking n s.candidates → with_candidates c (with_table t s) ≡ moved m s
  unfolding moved
  adopt-is n i t c hm hn hi ht hc =
      rw (hm, hc, ht, hi, hn, next-long s.table s.candidates)
      (ap (λ (x : NeighborTable). with_candidates (taking (length (entries s)) s.candidates) (with_table x s)) (adopted-next s.table s.candidates))

  pub join_is : (n i : ℕ) (t u : NeighborTable) → m ≡ JoinTried → n ≡ length (entries s) → i ≡ tried_index n s.candidates → t ≡ on_entries (marked i) s.table → u ≡ on_entries all_cleared t → with_table u s ≡ moved m s
  unfolding moved
  join_is n i t u hm hn hi ht hu =
      rw (hm, hu, ht, hi, hn) (ap (λ (x : NeighborTable). with_table x s) (joined-tried s.table s.candidates))
