-- What the candidates for one network are made of depends on the entries of that network alone. Assumes nothing.
use Rattle.std.proofs.Common.{Option, None, ◌≡◌, ℕ, Bool, true, false, cond, ◌&&◌, eqb, List, map, sym, refl, ap, ◌∙◌, eq-eqb, ne_eqb, eqb-true}
use mathlib.Core.Path.{fun_ext}
use mathlib.Core.List.{foldl, foldl-map}
use Rattle.lists.specs.Lists.{select, sort_by}
use Rattle.lists.proofs.Order.{map-sort}
use Rattle.lists.proofs.Indexes.{select-both}
use Rattle.lists.proofs.Ranks.{select-map}
use Rattle.nib.specs.declared.NwkNeighbor.{NwkNeighbor}
use Rattle.candidates.specs.UpdateIds.{of_network, permits, potential, replaced, newest}
use Rattle.candidates.specs.Candidates.{capacity, low_cost, is_id, eligible, ordered}

-- an order by a key of f's value goes through f
pub map-ordered : {A B : Type 0} (f : A → B) (k : B → ℕ) (profile : ℕ) (l : List A) → map f (ordered profile (λ y. k (f y)) l) ≡ ordered profile k (map f l)
map-ordered {A} {B} f k profile l = go (eqb profile 1)
  where
    go : (b : Bool) → map f (cond b (sort_by (λ y. k (f y)) l) l) ≡ cond b (sort_by k (map f l)) (map f l)
    go true = map-sort f k l
    go false = refl

-- the entries of network n, in order
abbrev pub network_of : ℕ → List NwkNeighbor → List NwkNeighbor
network_of n es = select (of_network n) es

-- the newest update id of a network is that among the network's own entries, whatever else of them is changed than what is read of them
pub newest-own : (permit : Bool) (n : ℕ) (f : NwkNeighbor → NwkNeighbor)
    → ((e : NwkNeighbor) → (permits permit (f e) && potential (f e)) ≡ (permits permit e && potential e)) → ((e : NwkNeighbor) → (f e).update_id ≡ e.update_id)
    → (es v : List NwkNeighbor) → network_of n v ≡ map f (network_of n es) → newest permit n v ≡ newest permit n es
unfolding newest
newest-own permit n f part id es v h =
    ap (foldl step None) (select-both (of_network n) has v)
    ∙ ap (λ (l : List NwkNeighbor). foldl step None (select has l)) h
    ∙ ap (foldl step None) (select-map f has has part (network_of n es))
    ∙ foldl-map f step (select has (network_of n es)) None
    ∙ ap (λ (s : Option ℕ → NwkNeighbor → Option ℕ). foldl s None (select has (network_of n es))) (fun_ext (λ best. fun_ext (λ e. ap (replaced best) (id e))))
    ∙ ap (foldl step None) (sym (select-both (of_network n) has es))
  where
    has : NwkNeighbor → Bool
    has e = permits permit e && potential e

    step : Option ℕ → NwkNeighbor → Option ℕ
    step best e = replaced best e.update_id

-- the condition on an entry of a network, at that network's newest update id
abbrev pub fit : Bool → Bool → Option ℕ → NwkNeighbor → Bool
fit router permit best e = permits permit e && capacity router e && low_cost e && potential e && is_id e.update_id best

module _ (router permit : Bool) (n : ℕ) (some : n ≡ 0 → ⊥) (es : List NwkNeighbor) where
  pub eligible-own : (e : NwkNeighbor) → eligible router permit n es e ≡ of_network n e && fit router permit (newest permit n es) e
  unfolding eligible
  eligible-own e = go (of_network n e) refl
    where
      go : (b : Bool) → of_network n e ≡ b → eligible router permit n es e ≡ b && fit router permit (newest permit n es) e
      go true h = rw (ne_eqb n 0 some, eqb-true e.extended_pan_id.0 n h, eq-eqb n n refl)
      go false h = rw (ne_eqb n 0 some, h)
