-- What `find_map` over the kinds finds. Assumes nothing.
use Prim.Native.Nat.{ℕ, ◌+◌, ◌<◌}
use mathlib.Core.Path.{◌≡◌, ap, ◌∙◌}
use mathlib.Core.Bool.{false≢true}
use mathlib.Core.List.{List}
use native.Mathlib.Omega.{arith}
use denote.Param.Members.{Mut}
use denote.Ref.{Bor}
use lib.ListN.{get_or}
use Rattle.std.specs.Fn.{Called}
use Rattle.std.specs.Iterator.Runs.{Run, ItemsMapTo, AllItemsGive, IsFirstToGive, CallKeepsClosure}
use Rattle.std.specs.Prelude.{Option, Some, None, is_some, IsTrue, IfSome, IsSomeAnd, MatchOption, unwrap_or}
use Rattle.std.specs.Option.{option_map}
use Rattle.trace_lines.specs.declared.InputKind.{InputKind}
use Rattle.trace_lines.specs.declared.InputLine.{InputLine}
use Rattle.trace_lines.specs.TraceLines.{read_by}
use Rattle.trace_lines.specs.Private.{read_kind}
use Rattle.trace_lines.proofs.Lines.{none_fits, first_fits}

module _ {F : Type 0} (g : Mut F (Bor InputKind × Unit {0}) (Option InputLine)) (f : F) (fs : List (List ℕ))
    (keeps : CallKeepsClosure g f) (reads : (x : Bor InputKind) (a : Option InputLine) → Called g f (x, tt) a f → a ≡ read_kind x.now fs) where
  -- what the closure said at an item
  at : (o : Option (Bor InputKind)) (k : InputKind) (a : Option InputLine) → option_map (λ y. y.now) o ≡ Some k → IfSome o (λ x. Called g f (x, tt) a f) → a ≡ read_kind k fs
  at None k a e h = absurd (false≢true (ap is_some e))
  at (Some x) k a e h = reads x a h ∙ ap (λ (n : Option InputKind). read_kind (unwrap_or n k) fs) e

  some : (o : Option (Bor InputKind)) (a : Option InputLine) → IsSomeAnd o (λ x. Called g f (x, tt) a f) → IfSome o (λ x. Called g f (x, tt) a f)
  some (Some x) a h = h
  some None a h = absurd h

  pub found : {S : Type 0} {steps : S → Option (Bor InputKind) → S → Type 0} (d : InputKind) (ks : List InputKind) (p : Run steps) → ItemsMapTo p (λ y. y.now) ks → (r : Option InputLine)
      → MatchOption r (IsTrue p.whole × AllItemsGive p g f None) (λ y. (i : ℕ) × (i < p.len) × (p.len ≡ i + 1) × IsFirstToGive p g f (Some y) None i) → r ≡ read_by ks fs
  found d ks p m None h = none_fits fs d ks (λ k l. at (p.at k) (get_or ks k d) None (m.2 k d (omega (arith, m.1 h.0))) (h.1 keeps k))
  found d ks p m (Some y) h =
      let b = h.3 keeps in
      first_fits fs d ks h.0 y (omega (arith, m.0, h.1)) (at (p.at h.0) (get_or ks h.0 d) (Some y) (m.2 h.0 d h.1) (some (p.at h.0) (Some y) b.0))
      (λ k l. at (p.at k) (get_or ks k d) None (m.2 k d (omega (arith, h.1))) (some (p.at k) None (b.1 k l)))
