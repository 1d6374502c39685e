-- Laws of the candidate list: which indexes are in it, how many, that none is twice, and their order. Assumes nothing.
use Rattle.std.proofs.Common.{Option, Some, None, ◌≡◌, ℕ, ◌<◌, ◌≤◌, Bool, true, false, eqb, ◌⊎◌, ◌↔◌, List, length, get_or, sym, refl, ap, inl, inr, ⊎_elim, arith, eq-eqb, ne_eqb, eqb-true, le-leb, leb-true}
use mathlib.Core.Bool.{false≢true, or-true}
use borrow.Author.Tests.{eqb-false}
use Rattle.std.proofs.lemmas.Bool.{and_parts, or_cases}
use Rattle.lists.specs.Lists.{indexes_from, All}
use Rattle.lists.proofs.Order.{In, Sorted, ByKey, All-of, Sorted-map, sort_sorted}
use Rattle.lists.proofs.Indexes.{indexes-ascend}
use Rattle.nib.specs.LinkCost.{link_cost}
use Rattle.nib.specs.Neighbors.{blank}
use Rattle.nib.specs.declared.NwkNeighbor.{NwkNeighbor}
use Rattle.candidates.specs.UpdateIds.{of_network, permits, potential, newest}
use Rattle.candidates.specs.Candidates.{matches, capacity, low_cost, current, is_id, eligible, Candidate, depth_at, candidates}
use Rattle.candidates.proofs.Chosen.{in-chosen, chosen-few}

-- `eligible` as facts
is-id : (id : ℕ) (m : Option ℕ) → is_id id m ≡ true → m ≡ Some id
is-id id None h = absurd (false≢true h)
is-id id (Some best) h = ap Some (sym (eqb-true id best h))

asked : (permit : Bool) (e : NwkNeighbor) → permits permit e ≡ true → permit ≡ true → e.permit_joining ≡ true
asked true e h t = h
asked false e h t = absurd (false≢true t)

allowed : (permit : Bool) (e : NwkNeighbor) → (permit ≡ true → e.permit_joining ≡ true) → permits permit e ≡ true
allowed true e h = h refl
allowed false e h = refl

module _ (router permit : Bool) (n : ℕ) (es : List NwkNeighbor) (e : NwkNeighbor) where
  facts : eligible router permit n es e ≡ true → Candidate router permit n es e
  unfolding eligible
  facts h =
      let u = and_parts _ (current permit es e) h in
      let p = and_parts _ (potential e) u.0 in
      let l = and_parts _ (low_cost e) p.0 in
      let c = and_parts _ (capacity router e) l.0 in
      let j = and_parts (matches n e) (permits permit e) c.0 in
      record {
        network = ⊎_elim (λ q. inl (eqb-true n 0 q)) (λ q. inr (eqb-true e.extended_pan_id.0 n q)) (or_cases (eqb n 0) (of_network n e) j.0);
        permitted = asked permit e j.1;
        room = c.1;
        cost = leb-true (link_cost e.lqi) 3 l.1;
        parent = eqb-true e.potential_parent 1 p.1;
        newest_id = is-id e.update_id (newest permit e.extended_pan_id.0 es) u.1;
      }

  from-facts : Candidate router permit n es e → eligible router permit n es e ≡ true
  unfolding eligible
  from-facts c =
      rw (matched c.network, allowed permit e c.permitted, c.room, le-leb (link_cost e.lqi) 3 c.cost, eq-eqb e.potential_parent 1 c.parent, c.newest_id)
      (eq-eqb e.update_id e.update_id refl)
    where
      matched : (n ≡ 0) ⊎ (e.extended_pan_id.0 ≡ n) → matches n e ≡ true
      matched = ⊎_elim (λ q. rw (eq-eqb n 0 q)) (λ q. rw (eq-eqb e.extended_pan_id.0 n q) (or-true (eqb n 0)))

  -- an entry is eligible exactly if the facts of a candidate hold of it
  pub eligible-is : (eligible router permit n es e ≡ true) ↔ Candidate router permit n es e
  eligible-is = (facts, from-facts)

-- The laws of the list, for a request and the list es of a table's entries
module _ (profile : ℕ) (router permit : Bool) (n : ℕ) (es : List NwkNeighbor) where
  -- an index is in the list exactly if it is below the number of entries and its entry is eligible
  pub member : (i : ℕ) → In i (candidates profile router permit n es) ↔ ((i < length es) × (eligible router permit n es (get_or es i blank) ≡ true))
  unfolding candidates
  member i = in-chosen profile (depth_at es) (eligible router permit n es) blank i es

  -- there are at most as many candidates as entries, each an index below their number
  pub few : length (candidates profile router permit n es) ≤ length es
  unfolding candidates
  few = chosen-few profile (depth_at es) (eligible router permit n es) es

  pub below : All (λ i. i < length es) (candidates profile router permit n es)
  below = All-of (λ i. i < length es) (candidates profile router permit n es) (λ i h. ((member i).0 h).0)

  -- stack profile 1: by depth, lower index first among equals
  pub by-depth : profile ≡ 1 → Sorted (ByKey (depth_at es)) (candidates profile router permit n es)
  unfolding candidates
  by-depth e = rw e (sort_sorted (depth_at es) (indexes_from (eligible router permit n es) 0 es) (indexes-ascend (eligible router permit n es) 0 es))

  -- any other: by index
  pub by_index : (profile ≡ 1 → ⊥) → Sorted ◌<◌ (candidates profile router permit n es)
  unfolding candidates
  by_index e = rw (ne_eqb profile 1 e) (indexes-ascend (eligible router permit n es) 0 es)

  -- no index is in it twice
  pub once : Sorted (λ x y. x ≡ y → ⊥) (candidates profile router permit n es)
  once = go (eqb profile 1) refl
    where
      apart : (x y : ℕ) → ByKey (depth_at es) x y → x ≡ y → ⊥
      apart x y h q = ⊎_elim (λ l. omega (arith, ap (depth_at es) q)) (λ l. omega arith) h

      go : (b : Bool) → eqb profile 1 ≡ b → Sorted (λ x y. x ≡ y → ⊥) (candidates profile router permit n es)
      go true e = Sorted-map (ByKey (depth_at es)) (λ x y. x ≡ y → ⊥) apart (candidates profile router permit n es) (by-depth (eqb-true profile 1 e))
      go false e = Sorted-map ◌<◌ (λ x y. x ≡ y → ⊥) (λ x y h q. omega arith) (candidates profile router permit n es) (by_index (eqb-false profile 1 e))
