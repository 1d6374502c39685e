-- What network n sees of a table: its own entries and the parents, each as commands are addressed to it. Assumes nothing.
-- Each look at a table is a look at what is seen, and what is seen after a write is determined by what was seen before.
use Rattle.std.specs.Prelude.{Option}
use Prim.Native.Nat.{ℕ, zero, suc, ◌<◌, ◌≤◌}
use mathlib.Core.Path.{◌≡◌, refl, sym, ap, ap₂, ◌∙◌, fun_ext, subst⁻¹}
use mathlib.Core.Bool.{Bool, true, false, cond, ◌&&◌, ◌||◌}
use mathlib.Core.List.{List, [], ◌∷◌, ◌++◌, map, map-map, flat_map}
use native.Mathlib.Omega.{arith}
use borrow.Author.Tests.{ne_eqb, lt-ltb, le-ltb}
use lib.Dec.{eqb, ltb}
use lib.ListN.{length, get_or, length-map, get_or-map}
use Rattle.lists.proofs.Lists.{select-long}
use Rattle.lists.proofs.First.{change-first}
use Rattle.lists.proofs.Maps.{change-past}
use Rattle.lists.proofs.Order.{All-of, All-map}
use Rattle.lists.proofs.Indexes.{in-indexes}
use Rattle.lists.specs.Lists.{indexes_from, select, first_index, change_at, All}
use Rattle.lists.proofs.Conditions.{split}
use Rattle.lists.proofs.Ranks.{is_marked, rank, change_ranked, marked-below, rank_below, at-rank, select-select, marks-map, marks-change, select-change, ranked-past, rank-none, select-map, marked-of, indexes-rank, indexes-map, sort-same}
use Rattle.nib.specs.Neighbors.{PARENT, NONE, entry_at, blank}
use Rattle.nib.proofs.Tables.{entry-anywhere}
use Rattle.nib.specs.declared.IeeeAddress.{IeeeAddress}
use Rattle.nib.specs.declared.NwkNeighbor.{NwkNeighbor}
use Rattle.nib.specs.NeighborTable.{has_address, is_parent, parent_of, seen_in, with_ieee, with_relationship, heard_at, cleared, learnt, renewed, marked, adopted, all_cleared}
use Rattle.nib.proofs.Looks.{parent-cons}
use Rattle.nib.proofs.Addressed.{look, ieee_in, seen, entry_seen, parent-seen, Mild, mild-relationship, mild-cleared, seen-change, seen-map, taught_to, seen-learnt, seen-heard, seen-renewed, Fresh, seen-fresh}
use Rattle.candidates.specs.UpdateIds.{of_network, newest}
use Rattle.candidates.specs.Candidates.{depth_at, ordered, candidates}
use Rattle.candidates.proofs.Laws.{member}
use Rattle.candidates.proofs.Network.{map-ordered, newest-own, fit, eligible-own}
use Rattle.candidates.specs.Tries.{parent_in}
use Rattle.discovery.specs.declared.mlme.Address.{Address}
use Rattle.discovery.specs.declared.mlme.Address.TheVariants.{Short, Extended}
use Rattle.discovery.specs.declared.mlme.PanDescriptor.{PanDescriptor}
use Rattle.discovery.specs.Discovery.{entry_from, neighbor_by, present, neighbors_of, neighbors_heard}
use Rattle.discovery.proofs.Scans.{network-neighbors}
use Rattle.two_nodes.specs.Statement.{is_beacon_of}

-- WHAT NETWORK n SEES

-- its own entries, and those with relationship PARENT, which may be of any network
abbrev pub visible : ℕ → NwkNeighbor → Bool
visible n e = of_network n e || is_parent e

unfoldable pub shows : ℕ → List NwkNeighbor → List NwkNeighbor
shows n es = select (visible n) (seen es)

-- which entries are its own
abbrev pub marks : ℕ → List NwkNeighbor → List Bool
marks n es = map (of_network n) es

or_right : (a b : Bool) → b ≡ true → (a || b) ≡ true
or_right true b h = refl
or_right false b h = h

or-false : (a : Bool) → (a || false) ≡ a
or-false true = refl
or-false false = refl

module _ (n : ℕ) where
  own-visible : (e : NwkNeighbor) → of_network n e ≡ true → visible n e ≡ true
  own-visible e t = rw t

  pub marks-seen : (es : List NwkNeighbor) → marks n (seen es) ≡ marks n es
  unfolding seen
  marks-seen es = marks-map (of_network n) (look (ieee_in es)) (λ e. refl) es

  pub own-shows : (es : List NwkNeighbor) → select (of_network n) (shows n es) ≡ map (look (ieee_in es)) (select (of_network n) es)
  unfolding shows seen
  own-shows es = select-select (of_network n) (visible n) own-visible (seen es) ∙ select-map (look (ieee_in es)) (of_network n) (of_network n) (λ e. refl) es

-- reads

parent-visible : (n : ℕ) (l : List NwkNeighbor) → parent_of (select (visible n) l) ≡ parent_of l
parent-visible n [] = refl
parent-visible n (e ∷ l) =
    let r = select (visible n) l in
    split (is_parent e)
    (λ t. rw (or_right (of_network n e) (is_parent e) t, parent-cons e r, parent-cons e l, t))
    (λ t. split (of_network n e)
    (λ u. rw (u, parent-cons e r, parent-cons e l, t) (parent-visible n l))
    (λ u. rw (u, parent-cons e l, t) (parent-visible n l)))

pub parent-shows : (n : ℕ) (es : List NwkNeighbor) → parent_in es ≡ parent_of (shows n es)
unfolding shows parent_in
parent-shows n es = parent-seen es ∙ sym (parent-visible n (seen es))

-- an index, and its place among the network's own entries: its rank; or past all that is seen, where the index is past the table
pub data Placed (n : ℕ) (es : List NwkNeighbor) (i r : ℕ) : Type 0 where
  ranked : is_marked (marks n es) i ≡ true → r ≡ rank (marks n es) i → Placed n es i r
  nowhere : length es ≤ i → length (shows n es) ≤ r → Placed n es i r

module _ (n : ℕ) where
  pub placed_at : (es : List NwkNeighbor) (l : List ℕ) → All (λ i. is_marked (marks n es) i ≡ true) l → (k : ℕ)
      → Placed n es (get_or l k (length es)) (get_or (map (rank (marks n es)) l) k (length (shows n es)))
  placed_at es [] a k = nowhere (omega arith) (omega arith)
  placed_at es (i ∷ l) a zero = ranked a.0 refl
  placed_at es (i ∷ l) a (suc k) = placed_at es l a.1 k

  pub entry-shows : (es : List NwkNeighbor) (i r : ℕ) → Placed n es i r → seen_in es (entry_at es i) ≡ entry_at (select (of_network n) (shows n es)) r
  unfolding shows
  entry-shows es i r (ranked t e) =
      let u : is_marked (marks n (seen es)) i ≡ true = subst⁻¹ (λ (ms : List Bool). is_marked ms i ≡ true) (marks-seen n es) t in
      let own = select (of_network n) (seen es) in
      entry_seen es i
      ∙ entry-anywhere (seen es) own i (rank (marks n (seen es)) i) (marked-below (of_network n) (seen es) i u) (rank_below (of_network n) (seen es) i u) (at-rank (of_network n) (seen es) i blank u)
      ∙ ap₂ entry_at (sym (select-select (of_network n) (visible n) (own-visible n) (seen es))) (ap (λ (ms : List Bool). rank ms i) (marks-seen n es) ∙ sym e)
  entry-shows es i r (nowhere a b) =
      rw (le-ltb i (length es) a, le-ltb r (length (select (of_network n) (shows n es))) (omega (arith, b, select-long (of_network n) (shows n es))))

-- writes at an index

module _ (n : ℕ) (f : NwkNeighbor → NwkNeighbor) (m : Mild f) (kept : (e : NwkNeighbor) → of_network n (f e) ≡ of_network n e) where
  pub changed-shows : (es : List NwkNeighbor) (i r : ℕ) → Placed n es i r → shows n (change_at i f es) ≡ change_ranked (of_network n) f r (shows n es)
  unfolding shows
  changed-shows es i r (ranked t e) =
      ap (select (visible n)) (seen-change f m i es)
      ∙ select-change (of_network n) f kept (visible n) (own-visible n) (seen es) i (subst⁻¹ (λ (ms : List Bool). is_marked ms i ≡ true) (marks-seen n es) t)
      ∙ ap (λ (k : ℕ). change_ranked (of_network n) f k (select (visible n) (seen es))) (ap (λ (ms : List Bool). rank ms i) (marks-seen n es) ∙ sym e)
  changed-shows es i r (nowhere a b) =
      ap (λ (l : List NwkNeighbor). select (visible n) (seen l)) (change-past f i es a) ∙ sym (ranked-past (of_network n) f r (select (visible n) (seen es)) b)

-- a rejoin makes the candidate PARENT and all others NONE: of the others only the network's own are still seen

abbrev pub adopted_in : ℕ → ℕ → List NwkNeighbor → List NwkNeighbor
adopted_in n r v =
    cond (ltb r (length (select (of_network n) v))) (change_ranked (of_network n) (with_relationship PARENT) r (map (with_relationship NONE) (select (of_network n) v))) v

module _ (n : ℕ) where
  none-shows : (es : List NwkNeighbor) → shows n (map (with_relationship NONE) es) ≡ map (with_relationship NONE) (select (of_network n) (shows n es))
  unfolding shows
  none-shows es =
      ap (select (visible n)) (seen-map (with_relationship NONE) (mild-relationship NONE) es)
      ∙ select-map (with_relationship NONE) (of_network n) (visible n) (λ e. or-false (of_network n e)) (seen es)
      ∙ ap (map (with_relationship NONE)) (sym (select-select (of_network n) (visible n) (own-visible n) (seen es)))

  none-marks : (es : List NwkNeighbor) → marks n (map (with_relationship NONE) es) ≡ marks n es
  none-marks es = marks-map (of_network n) (with_relationship NONE) (λ e. refl) es

  pub adopted-shows : (es : List NwkNeighbor) (i r : ℕ) → Placed n es i r → shows n (adopted i es) ≡ adopted_in n r (shows n es)
  unfolding adopted marked
  adopted-shows es i r (ranked t e) =
      let own = select (of_network n) (shows n es) in
      let long : length own ≡ length (select (of_network n) es) = ap length (own-shows n es) ∙ length-map (select (of_network n) es) (look (ieee_in es)) in
      let below : r < length own = omega (arith, long, e, rank_below (of_network n) es i t) in
      let none = map (with_relationship NONE) es in
      let same = none-marks es in
      rw (lt-ltb i (length es) (marked-below (of_network n) es i t), lt-ltb r (length own) below)
      (changed-shows n (with_relationship PARENT) (mild-relationship PARENT) (λ x. refl) none i r
      (ranked (ap (λ (ms : List Bool). is_marked ms i) same ∙ t) (e ∙ sym (ap (λ (ms : List Bool). rank ms i) same)))
      ∙ ap (change_ranked (of_network n) (with_relationship PARENT) r) (none-shows es))
  adopted-shows es i r (nowhere a b) =
      let own = select (of_network n) (shows n es) in
      rw (le-ltb i (length es) a, le-ltb r (length own) (omega (arith, b, select-long (of_network n) (shows n es))))

  pub adopted-marks : (i : ℕ) (es : List NwkNeighbor) → marks n (adopted i es) ≡ marks n es
  unfolding adopted marked
  adopted-marks i es =
      split (ltb i (length es))
      (λ t. rw t (marks-change (of_network n) (with_relationship PARENT) (λ e. refl) i (map (with_relationship NONE) es) ∙ none-marks es)) (λ t. rw t)

-- a join makes the candidate PARENT and clears the ids of every entry: only the parents are still seen

abbrev pub joined_in : ℕ → ℕ → List NwkNeighbor → List NwkNeighbor
joined_in n r v = map cleared (select is_parent (change_ranked (of_network n) (with_relationship PARENT) r v))

module _ (n : ℕ) (some : n ≡ 0 → ⊥) where
  foreign : (e : NwkNeighbor) → of_network n (cleared e) ≡ false
  foreign e = ne_eqb 0 n (λ z. some (sym z))

  cleared-shows : (es : List NwkNeighbor) → shows n (map cleared es) ≡ map cleared (select is_parent (shows n es))
  unfolding shows
  cleared-shows es =
      ap (select (visible n)) (seen-map cleared mild-cleared es)
      ∙ select-map cleared is_parent (visible n) (λ e. ap (λ (b : Bool). b || is_parent e) (foreign e)) (seen es)
      ∙ ap (map cleared) (sym (select-select is_parent (visible n) (λ e. or_right (of_network n e) (is_parent e)) (seen es)))

  pub joined-shows : (es : List NwkNeighbor) (i r : ℕ) → Placed n es i r → shows n (all_cleared (marked i es)) ≡ joined_in n r (shows n es)
  unfolding all_cleared marked
  joined-shows es i r p =
      cleared-shows (change_at i (with_relationship PARENT) es)
      ∙ ap (λ (l : List NwkNeighbor). map cleared (select is_parent l)) (changed-shows n (with_relationship PARENT) (mild-relationship PARENT) (λ e. refl) es i r p)

  -- no entry is the network's any more
  pub joined-ranks : (es : List NwkNeighbor) (j : ℕ) → rank (marks n (all_cleared es)) j ≡ 0
  unfolding all_cleared
  joined-ranks es j = ap (λ (ms : List Bool). rank ms j) (map-map (of_network n) cleared es) ∙ rank-none (λ e. of_network n (cleared e)) foreign es j

-- learning

module _ (n a : ℕ) (x : IeeeAddress) where
  pub learnt-shows : (es : List NwkNeighbor) → shows n (learnt a x es) ≡ map (taught_to a x) (shows n es)
  unfolding shows
  learnt-shows es = ap (select (visible n)) (seen-learnt a x es) ∙ select-map (taught_to a x) (visible n) (visible n) same (seen es)
    where
      same : (e : NwkNeighbor) → visible n (taught_to a x e) ≡ visible n e
      same e = split (has_address a e) (λ t. rw t) (λ t. rw t)

  pub learnt-marks : (es : List NwkNeighbor) → marks n (learnt a x es) ≡ marks n es
  unfolding learnt
  learnt-marks es = ap (marks n) (change-first (has_address a) (with_ieee x) es) ∙ marks-change (of_network n) (with_ieee x) (λ e. refl) (first_index (has_address a) es) es

-- hearing: when an entry was heard is not seen

module _ (n a t : ℕ) where
  pub renewed-shows : (es : List NwkNeighbor) → shows n (renewed a t es) ≡ shows n es
  unfolding shows
  renewed-shows es = ap (select (visible n)) (seen-renewed t a es)

  pub renewed-marks : (es : List NwkNeighbor) → marks n (renewed a t es) ≡ marks n es
  unfolding renewed
  renewed-marks es = ap (marks n) (change-first (has_address a) (heard_at t) es) ∙ marks-change (of_network n) (heard_at t) (λ e. refl) (first_index (has_address a) es) es

-- A SCAN

-- a new entry has no IEEE address, no last-heard time, and is no parent
abbrev New : NwkNeighbor → Type 0
New e = Fresh e × (is_parent e ≡ false)

all_new : (ds : List PanDescriptor) → All New (neighbors_of ds)
unfolding neighbors_of flat_map present neighbor_by entry_from
all_new [] = tt
all_new (d ∷ ds) = go d.coord_address (all_new ds)
  where
    go : (a : Address) → All New (neighbors_of ds) → All New (present (neighbor_by d a) ++ neighbors_of ds)
    go (Short p a) h = (((refl, refl), refl), h)
    go (Extended p a) h = h

new-visible : (n : ℕ) (es : List NwkNeighbor) → All New es → select (visible n) es ≡ select (of_network n) es
new-visible n [] h = refl
new-visible n (e ∷ es) h =
    let ih = new-visible n es h.1 in
    split (of_network n e) (λ t. rw t (ap (λ (z : List NwkNeighbor). e ∷ z) ih)) (λ t. rw (t, h.0.1) ih)

-- of a scan's table network n sees what its own beacons tell, whenever they were heard
pub scan-shows : (n t : ℕ) (ds : List PanDescriptor) → shows n (neighbors_heard t ds) ≡ neighbors_of (select (is_beacon_of n) ds)
unfolding shows
scan-shows n t ds =
    let new = all_new ds in
    ap (select (visible n)) (seen-heard t (neighbors_of ds) ∙ seen-fresh (neighbors_of ds) (All-map New Fresh (λ e h. h.0) (neighbors_of ds) new))
    ∙ new-visible n (neighbors_of ds) new
    ∙ network-neighbors n ds

-- THE CHOICE OF CANDIDATES

abbrev depth_of : NwkNeighbor → ℕ
depth_of e = e.depth

-- the candidates' places among the network's own entries, from what is seen
abbrev pub choice_in : ℕ → Bool → Bool → ℕ → List NwkNeighbor → List ℕ
choice_in profile router permit n v =
    ordered profile (λ r. get_or (map depth_of (select (of_network n) v)) r 0) (indexes_from (fit router permit (newest permit n v)) 0 (select (of_network n) v))

newest-shows : (permit : Bool) (n : ℕ) (es : List NwkNeighbor) → newest permit n (shows n es) ≡ newest permit n es
newest-shows permit n es = newest-own permit n (look (ieee_in es)) (λ e. refl) (λ e. refl) es (shows n es) (own-shows n es)

and_left : (a b : Bool) → (a && b) ≡ true → a ≡ true
and_left true b h = refl
and_left false b h = h

module _ (profile : ℕ) (router permit : Bool) (n : ℕ) (some : n ≡ 0 → ⊥) (es : List NwkNeighbor) where
  -- each candidate is an entry of the network
  pub choice-ours : All (λ i. is_marked (marks n es) i ≡ true) (candidates profile router permit n es)
  choice-ours =
      All-of (λ i. is_marked (marks n es) i ≡ true) (candidates profile router permit n es)
      (λ i h. let m = (member profile router permit n es i).0 h in
      marked-of (of_network n) es i blank m.0 (and_left _ _ (sym (eligible-own router permit n some es (get_or es i blank)) ∙ m.1)))

  abbrev ok : NwkNeighbor → Bool
  ok = fit router permit (newest permit n es)

  abbrev own : List NwkNeighbor
  own = select (of_network n) es

  abbrev chosen : List ℕ
  chosen = indexes_from (λ e. of_network n e && ok e) 0 es

  abbrev depths : ℕ → ℕ
  depths r = get_or (map depth_of own) r 0

  depth_same : All (λ i. depth_at es i ≡ depths (rank (marks n es) i)) chosen
  unfolding depth_at
  depth_same =
      All-of (λ i. depth_at es i ≡ depths (rank (marks n es) i)) chosen
      (λ i h. let m = (in-indexes (λ e. of_network n e && ok e) blank i es).0 h in
      let t = marked-of (of_network n) es i blank m.0 (and_left _ _ m.1) in
      ap depth_of (at-rank (of_network n) es i blank t) ∙ sym (get_or-map depth_of own (rank (marks n es) i) blank))

  -- the ranks of the candidates among the network's entries are the choice on these entries alone: the same are eligible, and the order by depth goes
  -- through the ranks
  pub choice-shows : map (rank (marks n es)) (candidates profile router permit n es) ≡ choice_in profile router permit n (shows n es)
  unfolding candidates
  choice-shows =
      ap (λ (p : NwkNeighbor → Bool). map (rank (marks n es)) (ordered profile (depth_at es) (indexes_from p 0 es))) (fun_ext (eligible-own router permit n some es))
      ∙ ap (map (rank (marks n es))) keyed
      ∙ map-ordered (rank (marks n es)) depths profile chosen
      ∙ ap (ordered profile depths) (indexes-rank (of_network n) ok es)
      ∙ sym (λ i. ordered profile (λ r. get_or (deep i) r 0) (there i))
    where
      keyed : ordered profile (depth_at es) chosen ≡ ordered profile (λ i. depths (rank (marks n es) i)) chosen
      keyed = split (eqb profile 1) (λ t. rw t (sort-same (depth_at es) (λ i. depths (rank (marks n es) i)) chosen depth_same)) (λ t. rw t)

      deep : map depth_of (select (of_network n) (shows n es)) ≡ map depth_of own
      deep = ap (map depth_of) (own-shows n es) ∙ map-map depth_of (look (ieee_in es)) own

      there : indexes_from (fit router permit (newest permit n (shows n es))) 0 (select (of_network n) (shows n es)) ≡ indexes_from ok 0 own
      there =
          ap₂ (λ (b : Option ℕ) (l : List NwkNeighbor). indexes_from (fit router permit b) 0 l) (newest-shows permit n es) (own-shows n es)
          ∙ indexes-map (look (ieee_in es)) ok 0 own
