-- The entries as commands are addressed to them: each with the IEEE address that is known of its short address, and with no last-heard time. Assumes nothing.
-- A look at a neighbour is a look at this list, and what the list is after a write is determined by what it was before.
-- Which entry of a short address learns its IEEE address, or is heard, makes no difference in it.
use Rattle.std.specs.Prelude.{Some}
use Prim.Native.Nat.{ℕ, zero, suc}
use mathlib.Core.Path.{◌≡◌, refl, sym, ap, ◌∙◌, fun_ext}
use mathlib.Core.Bool.{true, false, cond, false≢true}
use mathlib.Core.List.{List, [], ◌∷◌, map, map-map}
use borrow.Author.Tests.{eqb-true, eqb-false, eq-eqb, ne_eqb, ltb-true}
use lib.Dec.{eqb, ltb}
use lib.ListN.{length, length-map}
use Rattle.lists.specs.Lists.{first_index, change_at, some, All}
use Rattle.lists.proofs.Conditions.{split}
use Rattle.lists.proofs.First.{change-first}
use Rattle.std.proofs.lemmas.List.{get_or-map}
use Rattle.lists.proofs.Ranks.{first-map, map-change}
use Rattle.nib.specs.Neighbors.{entry_at, blank}
use Rattle.nib.specs.declared.IeeeAddress.{IeeeAddress}
use Rattle.nib.specs.declared.ShortAddress.{ShortAddress}
use Rattle.nib.specs.declared.NwkNeighbor.{NwkNeighbor}
use Rattle.nib.specs.NeighborTable.{has_address, is_parent, found, parent_of, ieee_number, seen_in, with_ieee, with_relationship, heard_at, without_potential, cleared, learnt, renewed}
use Rattle.nib.proofs.Looks.{found-cons, learnt-cons}

-- an entry with the IEEE address that is looked up by its short address, and with no last-heard time
abbrev pub look : (ℕ → IeeeAddress) → NwkNeighbor → NwkNeighbor
look g e = with_ieee (g e.network_address.0) (heard_at 0 e)

abbrev pub ieee_in : List NwkNeighbor → ℕ → IeeeAddress
ieee_in es a = ieee_number (found a es)

unfoldable pub seen : List NwkNeighbor → List NwkNeighbor
seen es = map (look (ieee_in es)) es

-- reads: the entry at an index, and the parent

pub entry_seen : (es : List NwkNeighbor) (i : ℕ) → seen_in es (entry_at es i) ≡ entry_at (seen es) i
unfolding seen
entry_seen es i =
    split (ltb i (length es))
    (λ t. rw (length-map es (look (ieee_in es)), t) (ap (λ (e : NwkNeighbor). Some e) (sym (get_or-map (look (ieee_in es)) es i blank blank (ltb-true i (length es) t)))))
    (λ t. rw (length-map es (look (ieee_in es)), t))

pub parent-seen : (es : List NwkNeighbor) → seen_in es (parent_of es) ≡ parent_of (seen es)
unfolding parent_of
parent-seen es =
    entry_seen es (first_index is_parent es)
    ∙ ap (entry_at (seen es)) (sym (unfold seen in first-map (look (ieee_in es)) is_parent is_parent (λ e. refl) es))

-- a change that keeps the addresses

pub record Addressed (f : NwkNeighbor → NwkNeighbor) : Type 0 where
  pub address : (e : NwkNeighbor) → (f e).network_address ≡ e.network_address
  pub ieee : (e : NwkNeighbor) → (f e).extended_address ≡ e.extended_address

module _ (f : NwkNeighbor → NwkNeighbor) (m : Addressed f) where
  -- of two lists whose tails have the same addresses, one begins with the changed entry
  ieee-head : (e : NwkNeighbor) (l k : List NwkNeighbor) (a : ℕ) → ieee_in l a ≡ ieee_in k a → ieee_in (f e ∷ l) a ≡ ieee_in (e ∷ k) a
  ieee-head e l k a h =
      rw (found-cons a (f e) l, found-cons a e k, m.address e)
      (split (has_address a e) (λ t. rw t (m.ieee e)) (λ t. rw t h))

  ieee-kept : (e : NwkNeighbor) (l k : List NwkNeighbor) (a : ℕ) → ieee_in l a ≡ ieee_in k a → ieee_in (e ∷ l) a ≡ ieee_in (e ∷ k) a
  ieee-kept e l k a h = rw (found-cons a e l, found-cons a e k) (split (has_address a e) (λ t. rw t) (λ t. rw t h))

  ieee-change : (i : ℕ) (es : List NwkNeighbor) (a : ℕ) → ieee_in (change_at i f es) a ≡ ieee_in es a
  ieee-change i [] a = refl
  ieee-change zero (e ∷ es) a = ieee-head e es es a refl
  ieee-change (suc i) (e ∷ es) a = ieee-kept e (change_at i f es) es a (ieee-change i es a)

  ieee-map : (es : List NwkNeighbor) (a : ℕ) → ieee_in (map f es) a ≡ ieee_in es a
  ieee-map [] a = refl
  ieee-map (e ∷ es) a = ieee-head e (map f es) es a (ieee-map es a)

-- one that does not touch the last-heard time either

pub record Mild (f : NwkNeighbor → NwkNeighbor) : Type 0 where
  pub addressed : Addressed f
  pub apart : (a : IeeeAddress) (e : NwkNeighbor) → with_ieee a (heard_at 0 (f e)) ≡ f (with_ieee a (heard_at 0 e))

pub mild-relationship : (r : ℕ) → Mild (with_relationship r)
mild-relationship r = record { addressed = record { address = λ e. refl; ieee = λ e. refl }; apart = λ a e. refl }

pub mild-potential : Mild without_potential
mild-potential = record { addressed = record { address = λ e. refl; ieee = λ e. refl }; apart = λ a e. refl }

pub mild-cleared : Mild cleared
mild-cleared = record { addressed = record { address = λ e. refl; ieee = λ e. refl }; apart = λ a e. refl }

module _ (f : NwkNeighbor → NwkNeighbor) (m : Mild f) where
  look-mild : (g : ℕ → IeeeAddress) (e : NwkNeighbor) → look g (f e) ≡ f (look g e)
  look-mild g e = ap (λ (x : ShortAddress). with_ieee (g x.0) (heard_at 0 (f e))) (m.addressed.address e) ∙ m.apart (g e.network_address.0) e

  pub seen-change : (i : ℕ) (es : List NwkNeighbor) → seen (change_at i f es) ≡ change_at i f (seen es)
  unfolding seen
  seen-change i es =
      ap (λ (g : ℕ → IeeeAddress). map (look g) (change_at i f es)) (fun_ext (ieee-change f m.addressed i es))
      ∙ map-change (look (ieee_in es)) f f (look-mild (ieee_in es)) i es

  pub seen-map : (es : List NwkNeighbor) → seen (map f es) ≡ map f (seen es)
  unfolding seen
  seen-map es = ap (λ (g : ℕ → IeeeAddress). map (look g) (map f es)) (fun_ext (ieee-map f m.addressed es)) ∙ both es
    where
      both : (l : List NwkNeighbor) → map (look (ieee_in es)) (map f l) ≡ map f (map (look (ieee_in es)) l)
      both [] = refl
      both (e ∷ l) = λ i. look-mild (ieee_in es) e i ∷ both l i

-- hearing: no look sees the time, so that it makes no difference which entry was heard, and when

module _ (t : ℕ) where
  heard-addressed : Addressed (heard_at t)
  heard-addressed = record { address = λ e. refl; ieee = λ e. refl }

  pub seen-heard : (es : List NwkNeighbor) → seen (map (heard_at t) es) ≡ seen es
  unfolding seen
  seen-heard es = ap (λ (g : ℕ → IeeeAddress). map (look g) (map (heard_at t) es)) (fun_ext (ieee-map (heard_at t) heard-addressed es)) ∙ map-map (look (ieee_in es)) (heard_at t) es

  look-heard : (g : ℕ → IeeeAddress) (i : ℕ) (es : List NwkNeighbor) → map (look g) (change_at i (heard_at t) es) ≡ map (look g) es
  look-heard g i [] = refl
  look-heard g zero (e ∷ es) = refl
  look-heard g (suc i) (e ∷ es) = ap (λ (l : List NwkNeighbor). look g e ∷ l) (look-heard g i es)

  pub seen-renewed : (a : ℕ) (es : List NwkNeighbor) → seen (renewed a t es) ≡ seen es
  unfolding seen renewed
  seen-renewed a es =
      let i = first_index (has_address a) es in
      ap seen (change-first (has_address a) (heard_at t) es)
      ∙ ap (λ (g : ℕ → IeeeAddress). map (look g) (change_at i (heard_at t) es)) (fun_ext (ieee-change (heard_at t) heard-addressed i es))
      ∙ look-heard (ieee_in es) i es

-- learning: whichever entry of a short address learns, every one is addressed by what was learnt

abbrev pub taught_to : ℕ → IeeeAddress → NwkNeighbor → NwkNeighbor
taught_to a x e = cond (has_address a e) (with_ieee x e) e

module _ (a : ℕ) (x : IeeeAddress) where
  -- a look past the entry's own address does not see which entry learnt
  look-learnt : (g : ℕ → IeeeAddress) (es : List NwkNeighbor) → map (look g) (learnt a x es) ≡ map (look g) es
  unfolding learnt
  look-learnt g [] = refl
  look-learnt g (e ∷ es) =
      ap (map (look g)) (learnt-cons a x e es)
      ∙ split (has_address a e) (λ t. rw t) (λ t. rw t (ap (λ (z : List NwkNeighbor). look g e ∷ z) (look-learnt g es)))

  learnt-ieee : (es : List NwkNeighbor) → some (has_address a) es ≡ true → (y : ℕ) → ieee_in (learnt a x es) y ≡ cond (eqb y a) x (ieee_in es y)
  learnt-ieee [] h y = absurd (false≢true h)
  learnt-ieee (e ∷ es) h y =
      let b = e.network_address.0 in
      rw (learnt-cons a x e es)
      (split (eqb b a)
      (λ t. rw (t, found-cons y (with_ieee x e) es, found-cons y e es)
      (split (eqb y a)
      (λ u. rw (eq-eqb b y (eqb-true b a t ∙ sym (eqb-true y a u)), u))
      (λ u. rw (ne_eqb b y (λ w. eqb-false y a u (sym w ∙ eqb-true b a t)), u))))
      (λ t. rw (t, found-cons y e (learnt a x es), found-cons y e es)
      (split (eqb b y)
      (λ u. rw (u, ne_eqb y a (λ w. eqb-false b a t (eqb-true b y u ∙ w))))
      (λ u. rw u (learnt-ieee es (rw t at h) y)))))

  learnt-absent : (es : List NwkNeighbor) → some (has_address a) es ≡ false → learnt a x es ≡ es
  unfolding learnt
  learnt-absent [] h = refl
  learnt-absent (e ∷ es) h =
      learnt-cons a x e es
      ∙ split (has_address a e) (λ t. absurd (false≢true (sym (rw t at h)))) (λ t. rw t (ap (λ (z : List NwkNeighbor). e ∷ z) (learnt-absent es (rw t at h))))

  taught-all : (g : ℕ → IeeeAddress) (es : List NwkNeighbor) → map (look (λ y. cond (eqb y a) x (g y))) es ≡ map (taught_to a x) (map (look g) es)
  taught-all g [] = refl
  taught-all g (e ∷ es) =
      let ih = taught-all g es in
      split (has_address a e) (λ t. rw t (ap (λ (z : List NwkNeighbor). with_ieee x (heard_at 0 e) ∷ z) ih)) (λ t. rw t (ap (λ (z : List NwkNeighbor). look g e ∷ z) ih))

  taught_none : (g : ℕ → IeeeAddress) (es : List NwkNeighbor) → some (has_address a) es ≡ false → map (taught_to a x) (map (look g) es) ≡ map (look g) es
  taught_none g [] h = refl
  taught_none g (e ∷ es) h =
      split (has_address a e) (λ t. absurd (false≢true (sym (rw t at h)))) (λ t. rw t (ap (λ (z : List NwkNeighbor). look g e ∷ z) (taught_none g es (rw t at h))))

  pub seen-learnt : (es : List NwkNeighbor) → seen (learnt a x es) ≡ map (taught_to a x) (seen es)
  unfolding seen
  seen-learnt es =
      split (some (has_address a) es)
      (λ t. look-learnt (ieee_in (learnt a x es)) es ∙ ap (λ (g : ℕ → IeeeAddress). map (look g) es) (fun_ext (learnt-ieee es t)) ∙ taught-all (ieee_in es) es)
      (λ t. ap (λ (l : List NwkNeighbor). map (look (ieee_in l)) l) (learnt-absent es t) ∙ sym (taught_none (ieee_in es) es t))

-- entries with no IEEE address and no last-heard time are seen as they are

abbrev pub Fresh : NwkNeighbor → Type 0
Fresh e = (e.extended_address ≡ record { 0 = 0 }) × (e.last_heard ≡ 0)

none-known : (es : List NwkNeighbor) → All Fresh es → (a : ℕ) → ieee_in es a ≡ record { 0 = 0 }
unfolding found
none-known [] h a = refl
none-known (e ∷ es) h a = ap ieee_number (found-cons a e es) ∙ split (has_address a e) (λ t. rw t h.0.0) (λ t. rw t (none-known es h.1 a))

pub seen-fresh : (es : List NwkNeighbor) → All Fresh es → seen es ≡ es
unfolding seen
seen-fresh es h = ap (λ (g : ℕ → IeeeAddress). map (look g) es) (fun_ext (none-known es h)) ∙ go es h
  where
    go : (l : List NwkNeighbor) → All Fresh l → map (look (λ a. record { 0 = 0 })) l ≡ l
    go [] k = refl
    go (e ∷ l) k = λ i. with_ieee (sym k.0.0 i) (heard_at (sym k.0.1 i) e) ∷ go l k.1 i
