-- Laws of a page that is printed: what the call answers, and what stands in the buffer of which a part was lent. Assumes nothing.
use Prim.Native.Nat.{ℕ, ◌≤◌, min, zero-le}
use mathlib.Core.Path.{◌≡◌, refl, sym, ap, ◌∙◌}
use mathlib.Core.Bool.{Bool, true, false, cond}
use mathlib.Core.List.{List, [], ◌∷◌, ◌++◌, append_assoc, append-nil}
use native.Mathlib.Omega.{arith}
use borrow.Author.Tests.{ltb-true, ltb-false, lt-ltb, le-ltb}
use types.Run.{OneOf, miss}
use denote.Enum.Declared.{tag_of}
use lib.Dec.{ltb}
use lib.ListN.{length, take, drop, take-append-drop, length-append}
use lib.Seq.{drop-append-le, length-take-le, take_at}
use Rattle.lists.specs.Lists.{over}
use Rattle.nib.specs.Neighbors.{entries_of}
use Rattle.nib.specs.declared.NwkNeighbor.{NwkNeighbor}
use Rattle.neighbor_page.specs.Page.{page, too_short, written}
use Rattle.neighbor_page.proofs.PageForm.{page-form}
use Rattle.operation.specs.declared.Step.{Step}
use Rattle.operation.specs.contracts.Step.{the_type}
use Rattle.operation.specs.Operation.{telling}
use Rattle.node.specs.Looks.{deciding_with, deciding}
use Rattle.node.specs.Refusals.{bad, refuse}
use Rattle.node.specs.Calls.{page_answer, page_left}
use Rattle.node.specs.declared.State.{State}
use Rattle.node.specs.declared.Answer.{Answer}
use Rattle.trace.specs.Lines.{step_line}
use Rattle.trace.specs.Trace.{some_text, page_bytes, page_text}
use Rattle.text.proofs.Written.{in_turn}
use Rattle.trace_lines.proofs.Texts.{line-short}
use Rattle.trace.proofs.Lists.{some-short, lines-short}
use Rattle.operation.specs.declared.Refusal.TheVariants.{BadState, ShortPage}

-- the tags of all answers but that of a page
abbrev no_page : List ℕ
no_page = 0 ∷ 1 ∷ 2 ∷ 3 ∷ 4 ∷ 5 ∷ 6 ∷ 7 ∷ 8 ∷ 9 ∷ 10 ∷ 11 ∷ 13 ∷ []

-- lent no more than 1,024 bytes, it is answered alike
room-same : (k : ℕ) → ltb (min k 1024) 816 ≡ ltb k 816
room-same k = go (ltb k 816) refl
  where
    go : (b : Bool) → ltb k 816 ≡ b → ltb (min k 1024) 816 ≡ b
    go true e = let h = ltb-true k 816 e in lt-ltb (min k 1024) 816 (omega arith)
    go false e = let h = ltb-false k 816 e in le-ltb (min k 1024) 816 (omega arith)

answer-same : (k : ℕ) (s : State) → page_answer (min k 1024) s ≡ page_answer k s
unfolding page_answer
answer-same k s = ap (λ b. cond (bad s) (refuse BadState s) (cond b (refuse ShortPage s) (deciding s (telling Step.PageWritten s.control)))) (room-same k)

-- no other answer comes with a page
bytes-none : (st : Step) (es : List NwkNeighbor) → OneOf no_page (tag_of the_type st) → page_bytes st es ≡ []
bytes-none Step.PageWritten es h = absurd (miss no_page 12 tt h)
bytes-none (Step.Refused k) es h = refl
bytes-none (Step.Ask r) es h = refl
bytes-none Step.Discovered es h = refl
bytes-none Step.DiscoveryFailed es h = refl
bytes-none (Step.Joined c) es h = refl
bytes-none (Step.Sent a) es h = refl
bytes-none (Step.Polled a) es h = refl
bytes-none (Step.NegotiationOver a) es h = refl
bytes-none (Step.KeepaliveOver a) es h = refl
bytes-none (Step.Expired b) es h = refl
bytes-none (Step.LeaveTaken slot) es h = refl
bytes-none (Step.StatusTaken slot) es h = refl
bytes-none Step.Done es h = refl

-- what is left in bytes that are lent, and how much of that is a page's
left-is : (b : List ℕ) (s : State) → (page_left b s ≡ over b (page_bytes (page_answer (length b) s).step (entries_of s.table))) × (length (page_bytes (page_answer (length b) s).step (entries_of s.table)) ≤ length b)
unfolding page_left page_answer written deciding_with refuse
left-is b s = go (bad s) (too_short (length b)) refl (deciding s (telling Step.PageWritten s.control)) refl
  where
    es : List NwkNeighbor
    es = entries_of s.table

    go : (x t : Bool) → too_short (length b) ≡ t → (a : Answer) → a.step ≡ Step.PageWritten
        → (cond x b (cond t b (over b (page es))) ≡ over b (page_bytes (cond x (refuse BadState s) (cond t (refuse ShortPage s) a)).step es))
        × (length (page_bytes (cond x (refuse BadState s) (cond t (refuse ShortPage s) a)).step es) ≤ length b)
    go true t r a h = (refl, zero-le)
    go false true r a h = (refl, zero-le)
    go false false r a h =
        let p : page_bytes a.step es ≡ page es = ap (λ (x : Step). page_bytes x es) h in
        (ap (over b) (sym p), omega (arith, ltb-false (length b) 816 r, ap length p, page-form.size es))

-- a list written over the front of the first n bytes is written over the front of all
part-over : (out p : List ℕ) (n : ℕ) → length p ≤ n → n ≤ length out → over (take n out) p ++ drop n out ≡ over out p
part-over out p n h k =
    append_assoc p (drop (length p) (take n out)) (drop n out)
    ∙ ap (λ (l : List ℕ). p ++ l) (sym (drop-append-le (length p) (take n out) (drop n out) (omega (arith, length-take-le n out k))) ∙ ap (drop (length p)) (take-append-drop n out))

-- 1,024 bytes of which the first n were lent
module _ (k : ℕ) (s : State) (out part : List ℕ) (a : Answer) (n : ℕ) (m : n ≡ min k 1024) (r : length out ≡ 1024) (e : a ≡ page_answer (length (take n out)) s) (q : part ≡ page_left (take n out) s) where
  pub step-is : a.step ≡ (page_answer k s).step
  step-is = ap (λ (x : Answer). x.step) (e ∙ ap (λ (i : ℕ). page_answer i s) (length-take-le n out (omega arith) ∙ m) ∙ answer-same k s)

  pub page-is : part ++ drop n out ≡ over out (page_bytes a.step (entries_of s.table))
  page-is =
      let l = left-is (take n out) s in
      ap (λ (x : List ℕ). x ++ drop n out) (q ∙ l.0)
      ∙ part-over out (page_bytes (page_answer (length (take n out)) s).step (entries_of s.table)) n (omega (arith, l.1, length-take-le n out (omega arith))) (omega arith)
      ∙ ap (λ (x : Answer). over out (page_bytes x.step (entries_of s.table))) (sym e)

-- what is printed of it: the line of the step, and the page behind it where there is one
module _ (k : ℕ) (s : State) (st : Step) (e : st ≡ (page_answer k s).step) where
  pub page_behind : some_text (step_line st 0) ++ page_bytes st (entries_of s.table) ≡ page_text k s
  unfolding page_text
  page_behind = ap (λ (x : Step). some_text (step_line x 0) ++ page_bytes x (entries_of s.table)) e

  pub page_alone : OneOf no_page (tag_of the_type st) → some_text (step_line st 0) ≡ page_text k s
  page_alone h =
      sym (append-nil (some_text (step_line st 0))) ∙ ap (λ (l : List ℕ). some_text (step_line st 0) ++ l) (sym (bytes-none st (entries_of s.table) h)) ∙ page_behind

pub page-taken : (b b' : List ℕ) (st : Step) (es : List NwkNeighbor) → st ≡ Step.PageWritten → b' ≡ over b (page_bytes st es) → take 816 b' ≡ page_bytes st es
page-taken b b' st es h e =
    let p : page_bytes st es ≡ page es = ap (λ (x : Step). page_bytes x es) h in
    ap (take 816) e ∙ take_at (page_bytes st es) (drop (length (page_bytes st es)) b) 816 (ap length p ∙ page-form.size es)

-- and how long it is
pub page-short : (k : ℕ) (s : State) → length (page_text k s) ≤ 1236
unfolding page_text
page-short k s = omega (arith, length-append (some_text (step_line (page_answer k s).step 0)) (page_bytes (page_answer k s).step (entries_of s.table)), some-short (step_line (page_answer k s).step 0), bytes-short (page_answer k s).step (entries_of s.table))
  where
    bytes-short : (st : Step) (es : List NwkNeighbor) → length (page_bytes st es) ≤ 816
    bytes-short Step.PageWritten es = omega (arith, page-form.size es)
    bytes-short (Step.Refused k) es = zero-le
    bytes-short (Step.Ask r) es = zero-le
    bytes-short Step.Discovered es = zero-le
    bytes-short Step.DiscoveryFailed es = zero-le
    bytes-short (Step.Joined c) es = zero-le
    bytes-short (Step.Sent a) es = zero-le
    bytes-short (Step.Polled a) es = zero-le
    bytes-short (Step.NegotiationOver a) es = zero-le
    bytes-short (Step.KeepaliveOver a) es = zero-le
    bytes-short (Step.Expired b) es = zero-le
    bytes-short (Step.LeaveTaken slot) es = zero-le
    bytes-short (Step.StatusTaken slot) es = zero-le
    bytes-short Step.Done es = zero-le

-- for a turn
pub ruleset said = (in_turn, line-short, lines-short, page-short)
