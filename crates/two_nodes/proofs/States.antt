-- What network n sees of a state: of its table, and of its candidates their places among the network's own entries. Assumes nothing.
-- Each look at a state is a look at what is seen, and what is seen after each write of a call is determined by what was seen before.
use Rattle.std.specs.Prelude.{Option, Some, None}
use Prim.Native.Nat.{ℕ, zero, suc, ◌+◌, ◌-◌, ◌<◌, ◌≤◌, min}
use mathlib.Core.Path.{◌≡◌, refl, sym, ap, ◌∙◌, subst⁻¹}
use mathlib.Core.Bool.{Bool, true, false, cond, not, ◌||◌, false≢true}
use mathlib.Core.List.{List, [], ◌∷◌, map}
use native.Mathlib.Nat.{add-zero}
use native.Mathlib.Omega.{arith}
use borrow.Author.Tests.{lt-ltb, le-ltb}
use lib.Dec.{eqb, ltb}
use lib.ListN.{length, drop, get_or, replicate, length-map, length-take}
use lib.Seq.{get_or-drop}
use Rattle.lists.specs.Lists.{select, first_index, some, All}
use Rattle.lists.proofs.Lists.{over-take}
use Rattle.lists.proofs.Order.{All-map}
use Rattle.lists.proofs.Conditions.{split}
use Rattle.lists.proofs.Ranks.{is_marked, rank, change_ranked, marked-below, marks-change}
use Rattle.nib.specs.Neighbors.{entry_at}
use Rattle.nib.specs.Bits.{bit}
use Rattle.nib.proofs.Tables.{entries-of}
use Rattle.nib.specs.declared.CapabilityInformation.{CapabilityInformation}
use Rattle.nib.specs.declared.ShortAddress.{ShortAddress}
use Rattle.nib.specs.declared.NwkNeighbor.{NwkNeighbor}
use Rattle.nib.specs.NeighborTable.{without_potential, heard_at, on_entries, marked, potential_cleared_at, parent_of}
use Rattle.nib.proofs.Entries.{entries-on, marked-long, adopted-long, cleared-long, potential-long}
use Rattle.management.specs.Frame.{sender_of}
use Rattle.management.specs.declared.frame.Source.{Source}
use Rattle.management.specs.declared.frame.ReceivedFrame.{ReceivedFrame}
use Rattle.discovery.specs.declared.mlme.PanDescriptor.{PanDescriptor}
use Rattle.discovery.specs.Discovery.{neighbors_of, neighbors_heard, short_addressed}
use Rattle.nib.proofs.Addressed.{mild-potential, taught_to}
use Rattle.candidates.specs.UpdateIds.{of_network}
use Rattle.candidates.specs.Candidates.{candidates, items_of, list_of}
use Rattle.candidates.proofs.Laws.{few as few-candidates}
use Rattle.candidates.specs.Tries.{tried_index, tried_in, skipped, next_index, next_in, past_table, taking, adopted_next, joined_tried, potential_cleared_tried}
use Rattle.operation.specs.Operation.{association_for}
use Rattle.operation.specs.declared.Phase.{Phase}
use Rattle.operation.specs.declared.Control.{Control}
use Rattle.operation.specs.declared.Move.{Move}
use Rattle.operation.specs.declared.Move.TheVariants.{Stay, TakeNext, AdoptNext, JoinTried}
use Rattle.node.specs.Looks.{with_table, entries, parent, tried, next, taken_next, moved, potential_cleared}
use Rattle.node.specs.Refusals.{past_in, bad}
use Rattle.node.specs.Calls.{with_chosen, with_scan, heard_on}
use Rattle.nlme.specs.Received.{taught_by, heard_from}
use Rattle.nlme.proofs.Taught.{heard-long}
use Rattle.node.specs.declared.State.{State}
use Rattle.two_nodes.specs.Statement.{is_beacon_of}
use Rattle.two_nodes.proofs.Sight.{shows, marks, Placed, nowhere, placed_at, parent-shows, entry-shows, changed-shows, adopted_in, adopted-shows, adopted-marks, joined_in, joined-shows, joined-ranks, learnt-shows, learnt-marks, renewed-shows, renewed-marks, scan-shows, choice_in, choice-ours, choice-shows}
use Rattle.nib.specs.declared.IeeeAddress.{IeeeAddress}

-- what is seen of the table; the places of all candidates among the network's own entries; and how many candidates have been taken
pub record Sight : Type 0 where
  pub list : List NwkNeighbor
  pub places : List ℕ
  pub taken : ℕ

abbrev pub sight : ℕ → State → Sight
sight n s =
    record { list = shows n (entries s); places = map (rank (marks n (entries s))) (items_of s.candidates.list); taken = s.candidates.taken }

-- candidates are being tried, or may be: those of an association, and of a rejoin after its scan
abbrev pub live_in : Phase → Bool → Bool
live_in Phase.Idle requested = false
live_in (Phase.Scan u) requested = false
live_in Phase.Association requested = true
live_in (Phase.Transmission u) requested = requested
live_in (Phase.Reception u) requested = requested

abbrev pub live : Control → Bool
live c = live_in c.operation.phase c.operation.scan_requested

-- the counts are in range
pub record Tidy (s : State) : Type 0 where
  pub small : s.table.count ≤ 16
  pub few : s.candidates.list.count ≤ 16

-- each candidate is an entry of the network
pub record Ours (n : ℕ) (s : State) : Type 0 where
  pub all : All (λ i. is_marked (marks n (entries s)) i ≡ true) (items_of s.candidates.list)

entries-few : (s : State) → Tidy s → length (entries s) ≤ 16
entries-few s d = omega (arith, d.small, length-take s.table.count s.table.entries)

-- LOOKS

-- the place of the candidate being tried, and of the next one; past all that is seen where there is none
abbrev tried_place : Sight → ℕ
tried_place v = cond (eqb v.taken 0) (length v.list) (get_or v.places (v.taken - 1) (length v.list))

abbrev next_place : Sight → ℕ
next_place v = get_or v.places v.taken (length v.list)

abbrev pub tried_seen : ℕ → Sight → Option NwkNeighbor
tried_seen n v = entry_at (select (of_network n) v.list) (tried_place v)

abbrev pub next_seen : ℕ → Sight → Option NwkNeighbor
next_seen n v = entry_at (select (of_network n) v.list) (next_place v)

none-skipped : (m k : ℕ) (l : List ℕ) → All (λ i. i < m) l → first_index (λ i. ltb i m) (drop k l) ≡ 0
none-skipped m zero [] a = refl
none-skipped m zero (i ∷ l) a = rw (lt-ltb i m a.0)
none-skipped m (suc k) [] a = refl
none-skipped m (suc k) (i ∷ l) a = none-skipped m k l a.1

module _ (n : ℕ) (s : State) where
  pub parent_in : parent s ≡ parent_of (sight n s).list
  parent_in = parent-shows n (entries s)

  module _ (o : Ours n s) where
    below : All (λ i. i < length (entries s)) (items_of s.candidates.list)
    below = All-map (λ i. is_marked (marks n (entries s)) i ≡ true) (λ i. i < length (entries s)) (marked-below (of_network n) (entries s)) (items_of s.candidates.list) o.all

    no-skip : skipped (length (entries s)) s.candidates ≡ 0
    unfolding skipped
    no-skip = none-skipped (length (entries s)) s.candidates.taken (items_of s.candidates.list) below

    tried-placed : Placed n (entries s) (tried_index (length (entries s)) s.candidates) (tried_place (sight n s))
    unfolding tried_index
    tried-placed =
        split (eqb s.candidates.taken 0) (λ t. rw t (nowhere (omega arith) (omega arith)))
        (λ t. rw t (placed_at n (entries s) (items_of s.candidates.list) o.all (s.candidates.taken - 1)))

    next-placed : Placed n (entries s) (next_index (length (entries s)) s.candidates) (next_place (sight n s))
    unfolding next_index
    next-placed =
        let c = s.candidates in
        let m = length (entries s) in
        let i : get_or (drop c.taken (items_of c.list)) 0 m ≡ get_or (items_of c.list) c.taken m =
        get_or-drop c.taken (items_of c.list) 0 m ∙ ap (λ (k : ℕ). get_or (items_of c.list) k m) (add-zero c.taken) in
        rw (no-skip, i) (placed_at n (entries s) (items_of c.list) o.all c.taken)

    pub tried-in : tried s ≡ tried_seen n (sight n s)
    unfolding tried_in
    tried-in = entry-shows n (entries s) (tried_index (length (entries s)) s.candidates) (tried_place (sight n s)) tried-placed

    pub next-in : next s ≡ next_seen n (sight n s)
    unfolding next_in
    next-in = entry-shows n (entries s) (next_index (length (entries s)) s.candidates) (next_place (sight n s)) next-placed

-- WRITES

-- a change of the entries that keeps their number and which of them are the network's
module _ (n : ℕ) (f : List NwkNeighbor → List NwkNeighbor) (s : State) (long : length (f (entries s)) ≡ length (entries s)) where
  changed-list : {v : List NwkNeighbor} → shows n (f (entries s)) ≡ v → shows n (entries (with_table (on_entries f s.table) s)) ≡ v
  changed-list h = ap (shows n) (entries-on f s.table long) ∙ h

  changed-tidy : Tidy s → Tidy (with_table (on_entries f s.table) s)
  unfolding on_entries
  changed-tidy d = record { small = d.small; few = d.few }

  module _ (kept : marks n (f (entries s)) ≡ marks n (entries s)) where
    changed-marks : marks n (entries (with_table (on_entries f s.table) s)) ≡ marks n (entries s)
    changed-marks = ap (marks n) (entries-on f s.table long) ∙ kept

    changed-sight : {v : List NwkNeighbor} → shows n (f (entries s)) ≡ v
        → sight n (with_table (on_entries f s.table) s) ≡ record { list = v; places = (sight n s).places; taken = s.candidates.taken }
    changed-sight h = λ i. record { list = changed-list h i; places = map (rank (changed-marks i)) (items_of s.candidates.list); taken = s.candidates.taken }

    changed-ours : Ours n s → Ours n (with_table (on_entries f s.table) s)
    changed-ours o = record { all = subst⁻¹ (λ (ms : List Bool). All (λ i. is_marked ms i ≡ true) (items_of s.candidates.list)) changed-marks o.all }

-- the candidate being tried is no longer a potential parent

abbrev potential_cleared_in : ℕ → Bool → Sight → Sight
potential_cleared_in n true v = record { list = change_ranked (of_network n) without_potential (tried_place v) v.list; places = v.places; taken = v.taken }
potential_cleared_in n false v = v

module _ (n : ℕ) (s : State) where
  abbrev potential-kept : List NwkNeighbor → List NwkNeighbor
  potential-kept = potential_cleared_tried s.candidates

  potential-cleared-long : length (potential-kept (entries s)) ≡ length (entries s)
  unfolding potential_cleared_tried
  potential-cleared-long = potential-long (tried_index (length (entries s)) s.candidates) (entries s)

  potential-cleared-marks : marks n (potential-kept (entries s)) ≡ marks n (entries s)
  unfolding potential_cleared_tried potential_cleared_at
  potential-cleared-marks = marks-change (of_network n) without_potential (λ e. refl) (tried_index (length (entries s)) s.candidates) (entries s)

  potential-cleared-shows : Ours n s → shows n (potential-kept (entries s)) ≡ (potential_cleared_in n true (sight n s)).list
  unfolding potential_cleared_tried potential_cleared_at
  potential-cleared-shows o = changed-shows n without_potential mild-potential (λ e. refl) (entries s) (tried_index (length (entries s)) s.candidates) (tried_place (sight n s)) (tried-placed n s o)

  potential-cleared-sight : (b : Bool) → Ours n s → sight n (potential_cleared b s) ≡ potential_cleared_in n b (sight n s)
  unfolding potential_cleared
  potential-cleared-sight true o = changed-sight n potential-kept s potential-cleared-long potential-cleared-marks (potential-cleared-shows o)
  potential-cleared-sight false o = refl

  potential-cleared-tidy : (b : Bool) → Tidy s → Tidy (potential_cleared b s)
  unfolding potential_cleared
  potential-cleared-tidy true d = changed-tidy n potential-kept s potential-cleared-long d
  potential-cleared-tidy false d = d

  potential-cleared-ours : (b : Bool) → Ours n s → Ours n (potential_cleared b s)
  unfolding potential_cleared
  potential-cleared-ours true o = changed-ours n potential-kept s potential-cleared-long potential-cleared-marks o
  potential-cleared-ours false o = o

-- the next candidate is taken

abbrev taken_in : Sight → Sight
taken_in v = record { list = v.list; places = v.places; taken = min (v.taken + 0 + 1) (length v.places) }

taken-sight : (n : ℕ) (s : State) → Ours n s → sight n (taken_next s) ≡ taken_in (sight n s)
unfolding taking
taken-sight n s o =
    let l = items_of s.candidates.list in
    λ i. record { list = (sight n s).list; places = (sight n s).places; taken = min (s.candidates.taken + no-skip n s o i + 1) (sym (length-map l (rank (marks n (entries s)))) i) }

taken-tidy : (s : State) → Tidy s → Tidy (taken_next s)
unfolding taking
taken-tidy s d = record { small = d.small; few = d.few }

taken-ours : (n : ℕ) (s : State) → Ours n s → Ours n (taken_next s)
unfolding taking
taken-ours n s o = record { all = o.all }

-- it is adopted

module _ (n : ℕ) (s : State) where
  abbrev adopting : List NwkNeighbor → List NwkNeighbor
  adopting = adopted_next s.candidates

  abbrev adopted_state : State
  adopted_state = with_table (on_entries adopting s.table) s

  adopt-long : length (adopting (entries s)) ≡ length (entries s)
  unfolding adopted_next
  adopt-long = adopted-long (next_index (length (entries s)) s.candidates) (entries s)

  adopt-marks : marks n (adopting (entries s)) ≡ marks n (entries s)
  unfolding adopted_next
  adopt-marks = adopted-marks n (next_index (length (entries s)) s.candidates) (entries s)

  adopt-shows : Ours n s → shows n (adopting (entries s)) ≡ adopted_in n (next_place (sight n s)) (sight n s).list
  unfolding adopted_next
  adopt-shows o = adopted-shows n (entries s) (next_index (length (entries s)) s.candidates) (next_place (sight n s)) (next-placed n s o)

  adopt-sight : Ours n s → sight n adopted_state ≡ record { list = adopted_in n (next_place (sight n s)) (sight n s).list; places = (sight n s).places; taken = s.candidates.taken }
  adopt-sight o = changed-sight n adopting s adopt-long adopt-marks (adopt-shows o)

  adopt-ours : Ours n s → Ours n adopted_state
  adopt-ours o = changed-ours n adopting s adopt-long adopt-marks o

-- the candidate being tried becomes the parent of a new member, after which no entry is the network's

module _ (n : ℕ) (some : n ≡ 0 → ⊥) (s : State) where
  abbrev joining : List NwkNeighbor → List NwkNeighbor
  joining = joined_tried s.candidates

  join-long : length (joining (entries s)) ≡ length (entries s)
  unfolding joined_tried
  join-long = cleared-long (marked (tried_index (length (entries s)) s.candidates) (entries s)) ∙ marked-long (tried_index (length (entries s)) s.candidates) (entries s)

  join-shows : Ours n s → shows n (joining (entries s)) ≡ joined_in n (tried_place (sight n s)) (sight n s).list
  unfolding joined_tried
  join-shows o = joined-shows n some (entries s) (tried_index (length (entries s)) s.candidates) (tried_place (sight n s)) (tried-placed n s o)

  join-places : (l : List ℕ) → map (rank (marks n (entries (with_table (on_entries joining s.table) s)))) l ≡ map (λ k. 0) (map (rank (marks n (entries s))) l)
  unfolding joined_tried
  join-places [] = refl
  join-places (i ∷ l) =
      λ j. (ap (λ (es : List NwkNeighbor). rank (marks n es) i) (entries-on joining s.table join-long) ∙ joined-ranks n some (marked (tried_index (length (entries s)) s.candidates) (entries s)) i) j ∷ join-places l j

-- what a decision does with the candidates

abbrev moved_in : ℕ → Move → Sight → Sight
moved_in n Stay v = v
moved_in n TakeNext v = taken_in v
moved_in n AdoptNext v = taken_in (record { list = adopted_in n (next_place v) v.list; places = v.places; taken = v.taken })
moved_in n JoinTried v = record { list = joined_in n (tried_place v) v.list; places = map (λ k. 0) v.places; taken = v.taken }

abbrev pub joins : Move → Bool
joins Stay = false
joins TakeNext = false
joins AdoptNext = false
joins JoinTried = true

module _ (n : ℕ) (some : n ≡ 0 → ⊥) where
  moved-sight : (m : Move) (s : State) → Ours n s → sight n (moved m s) ≡ moved_in n m (sight n s)
  unfolding moved
  moved-sight Stay s o = refl
  moved-sight TakeNext s o = taken-sight n s o
  moved-sight AdoptNext s o = taken-sight n (adopted_state n s) (adopt-ours n s o) ∙ ap taken_in (adopt-sight n s o)
  moved-sight JoinTried s o =
      λ i. record {
        list = changed-list n (joining n some s) s (join-long n some s) (join-shows n some s o) i;
        places = join-places n some s (items_of s.candidates.list) i;
        taken = s.candidates.taken;
      }

moved-tidy : (m : Move) (s : State) → Tidy s → Tidy (moved m s)
unfolding moved on_entries
moved-tidy Stay s d = d
moved-tidy TakeNext s d = taken-tidy s d
moved-tidy AdoptNext s d = taken-tidy (with_table (on_entries (adopted_next s.candidates) s.table) s) (record { small = d.small; few = d.few })
moved-tidy JoinTried s d = record { small = d.small; few = d.few }

moved-ours : (n : ℕ) (m : Move) (s : State) → joins m ≡ false → Ours n s → Ours n (moved m s)
unfolding moved
moved-ours n Stay s h o = o
moved-ours n TakeNext s h o = taken-ours n s o
moved-ours n AdoptNext s h o = taken-ours n (adopted_state n s) (adopt-ours n s o)
moved-ours n JoinTried s h o = absurd (false≢true (sym h))

-- the writes of a decision
abbrev pub written_in : ℕ → Bool → Move → Sight → Sight
written_in n b m v = moved_in n m (potential_cleared_in n b v)

module _ (n : ℕ) (some : n ≡ 0 → ⊥) (b : Bool) (m : Move) (s : State) where
  pub written-sight : Ours n s → sight n (moved m (potential_cleared b s)) ≡ written_in n b m (sight n s)
  written-sight o = moved-sight n some m (potential_cleared b s) (potential-cleared-ours n s b o) ∙ ap (moved_in n m) (potential-cleared-sight n s b o)

  pub written-tidy : Tidy s → Tidy (moved m (potential_cleared b s))
  written-tidy d = moved-tidy m (potential_cleared b s) (potential-cleared-tidy n s b d)

  pub written_ours : joins m ≡ false → Ours n s → Ours n (moved m (potential_cleared b s))
  written_ours h o = moved-ours n m (potential_cleared b s) h (potential-cleared-ours n s b o)

-- candidates are chosen afresh

module _ (permit : Bool) (n : ℕ) (some : n ≡ 0 → ⊥) (i : CapabilityInformation) (s : State) where
  abbrev profile : ℕ
  profile = s.control.nlme.nib.stack_profile

  abbrev choice : List ℕ
  choice = candidates profile (bit 1 i.0) permit n (entries s)

  chosen-items : items_of (list_of choice) ≡ choice
  chosen-items = over-take (replicate 16 0) choice

  pub chosen-sight : sight n (with_chosen permit n i s) ≡ record { list = (sight n s).list; places = choice_in profile (bit 1 i.0) permit n (sight n s).list; taken = 0 }
  unfolding with_chosen
  chosen-sight =
      ap (λ (l : List ℕ). record { list = (sight n s).list; places = l; taken = 0 })
      (ap (map (rank (marks n (entries s)))) chosen-items ∙ choice-shows profile (bit 1 i.0) permit n some (entries s))

  pub chosen-tidy : Tidy s → Tidy (with_chosen permit n i s)
  unfolding with_chosen
  chosen-tidy d = record { small = d.small; few = omega (arith, few-candidates profile (bit 1 i.0) permit n (entries s), entries-few s d) }

  pub chosen-ours : Ours n (with_chosen permit n i s)
  unfolding with_chosen
  chosen-ours =
      record {
        all = subst⁻¹ (λ (l : List ℕ). All (λ j. is_marked (marks n (entries s)) j ≡ true) l) chosen-items (choice-ours profile (bit 1 i.0) permit n some (entries s));
      }

-- a scan makes the table

module _ (t : ℕ) (ds : List PanDescriptor) (s : State) (within : short_addressed ds ≤ 16) where
  heard-entries : entries (with_scan t ds s) ≡ neighbors_heard t ds
  unfolding with_scan
  heard-entries = entries-of (neighbors_heard t ds)

  pub heard-tidy : s.candidates.list.count ≤ 16 → Tidy (with_scan t ds s)
  unfolding with_scan
  heard-tidy h = record { small = omega (arith, within, length-map (neighbors_of ds) (heard_at t)); few = h }

  pub heard-list : (n : ℕ) → shows n (entries (with_scan t ds s)) ≡ neighbors_of (select (is_beacon_of n) ds)
  heard-list n = ap (shows n) heard-entries ∙ scan-shows n t ds

-- a frame's sender is heard

abbrev learnt_in : Option IeeeAddress → ShortAddress → List NwkNeighbor → List NwkNeighbor
learnt_in None a l = l
learnt_in (Some x) a l = map (taught_to a.0 x) l

abbrev pub heard_in : Option Source → List NwkNeighbor → List NwkNeighbor
heard_in None l = l
heard_in (Some f) l = learnt_in f.ieee f.address l

by-marks : (n : ℕ) (x : Option IeeeAddress) (a : ShortAddress) (es : List NwkNeighbor) → marks n (taught_by x a es) ≡ marks n es
unfolding taught_by
by-marks n None a es = refl
by-marks n (Some x) a es = learnt-marks n a.0 x es

by-shows : (n : ℕ) (x : Option IeeeAddress) (a : ShortAddress) (es : List NwkNeighbor) → shows n (taught_by x a es) ≡ learnt_in x a (shows n es)
unfolding taught_by
by-shows n None a es = refl
by-shows n (Some x) a es = learnt-shows n a.0 x es

module _ (n t : ℕ) where
  from-marks : (f : Option Source) (es : List NwkNeighbor) → marks n (heard_from f t es) ≡ marks n es
  unfolding heard_from
  from-marks None es = refl
  from-marks (Some f) es = renewed-marks n f.address.0 t (taught_by f.ieee f.address es) ∙ by-marks n f.ieee f.address es

  from-shows : (f : Option Source) (es : List NwkNeighbor) → shows n (heard_from f t es) ≡ heard_in f (shows n es)
  unfolding heard_from
  from-shows None es = refl
  from-shows (Some f) es = renewed-shows n f.address.0 t (taught_by f.ieee f.address es) ∙ by-shows n f.ieee f.address es

  module _ (f : ReceivedFrame) (s : State) where
    abbrev hearing : List NwkNeighbor → List NwkNeighbor
    hearing = heard_from (sender_of f) t

    pub frame-sight : sight n (heard_on f t s) ≡ record { list = heard_in (sender_of f) (sight n s).list; places = (sight n s).places; taken = s.candidates.taken }
    frame-sight = changed-sight n hearing s (heard-long (sender_of f) t (entries s)) (from-marks (sender_of f) (entries s)) (from-shows (sender_of f) (entries s))

    pub frame-tidy : Tidy s → Tidy (heard_on f t s)
    frame-tidy d = changed-tidy n hearing s (heard-long (sender_of f) t (entries s)) d

    pub frame-ours : Ours n s → Ours n (heard_on f t s)
    frame-ours o = changed-ours n hearing s (heard-long (sender_of f) t (entries s)) (from-marks (sender_of f) (entries s)) o

-- REFUSAL 5

none-past-table : (m k : ℕ) (l : List ℕ) → All (λ i. i < m) l → some (λ i. not (ltb i m)) (drop k l) ≡ false
none-past-table m zero [] a = refl
none-past-table m zero (i ∷ l) a = rw (lt-ltb i m a.0) (none-past-table m zero l a.1)
none-past-table m (suc k) [] a = refl
none-past-table m (suc k) (i ∷ l) a = none-past-table m k l a.1

tried-within-table : (n : ℕ) (s : State) → Ours n s → past_table s.table.count s.candidates ≡ false
unfolding past_table
tried-within-table n s o =
    none-past-table s.table.count (s.candidates.taken - 1) (items_of s.candidates.list)
    (All-map (λ i. i < length (entries s)) (λ i. i < s.table.count) (λ i h. omega (arith, length-take s.table.count s.table.entries)) (items_of s.candidates.list) (below n s o))

-- where the counts are in range and the candidates of an association are the network's, it depends on the control part and on how many candidates were taken
abbrev pub bad_in : Control → ℕ → Bool
bad_in c k = ltb 16 c.nlme.transmit_failures.count || (ltb 16 k || (ltb 20 c.operation.polls_left || false))

pub bad-is : (n : ℕ) (s : State) → Tidy s → (live s.control ≡ true → Ours n s) → bad s ≡ bad_in s.control s.candidates.taken
unfolding bad
bad-is n s d o = rw (le-ltb 16 s.table.count d.small, le-ltb 16 s.candidates.list.count d.few, past s.control.operation.phase o)
  where
    past : (p : Phase) → (live_in p s.control.operation.scan_requested ≡ true → Ours n s) → past_in (association_for p) s.table.count s.candidates ≡ false
    past Phase.Association h = tried-within-table n s (h refl)
    past Phase.Idle h = refl
    past (Phase.Scan u) h = refl
    past (Phase.Transmission u) h = refl
    past (Phase.Reception u) h = refl
