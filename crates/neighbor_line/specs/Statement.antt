-- What is claimed of the moves (02, L4): "old lines moved forth and back are the same bytes".
use Rattle.std.specs.Prelude.{Ok, Err, ℕ, ◌+◌, ◌-◌, ◌≤◌, ◌≡◌, true, List, length, take}
use Rattle.text.specs.Text.{bytes}
use Rattle.neighbor_line.specs.NeighborLine.{old_forms, entry_forms, last_heard_in}
use Rattle.neighbor_line.specs.Moves.{move_refusal_number, fields_of_line, is_line_of, forth_answer, forth_left, back_answer, back_left}
use Rattle.neighbor_line.specs.declared.MoveRefusal.{MoveRefusal}

-- the line that a move of n bytes leaves in a buffer
abbrev pub line_left : ℕ → List ℕ → List ℕ
line_left n out = take n out

pub record Moves : Type 0 where
  -- a line of twelve fields is moved forth where the buffer has two bytes more than the line
  pub goes-forth : (t : List ℕ) (room : ℕ) → is_line_of old_forms t ≡ true → length t + 2 ≤ room → forth_answer t room ≡ Ok (length t + 2)
  -- and one of thirteen is moved back where its last-heard time is 0 and the buffer has two bytes less, or more
  pub goes-back : (t : List ℕ) (room : ℕ) → is_line_of entry_forms t ≡ true → last_heard_in (fields_of_line t) ≡ 0 → length t ≤ room + 2
      → back_answer t room ≡ Ok (length t - 2)
  -- a line that was moved forth is moved back, and is the same bytes
  pub forth-back : (t a b : List ℕ) (n : ℕ) → forth_answer t (length a) ≡ Ok n → length t ≤ length b
      → (back_answer (line_left n (forth_left t a)) (length b) ≡ Ok (length t)) × (line_left (length t) (back_left (line_left n (forth_left t a)) b) ≡ t)
  -- a line that was moved back is moved forth, and is the same bytes
  pub back-forth : (t a b : List ℕ) (n : ℕ) → back_answer t (length a) ≡ Ok n → length t ≤ length b
      → (forth_answer (line_left n (back_left t a)) (length b) ≡ Ok (length t)) × (line_left (length t) (forth_left (line_left n (back_left t a)) b) ≡ t)
  -- a line that was moved forth is turned down by 6 alone
  pub no-other : (t a : List ℕ) (n room : ℕ) (r : MoveRefusal) → forth_answer t (length a) ≡ Ok n → back_answer (line_left n (forth_left t a)) room ≡ Err r → move_refusal_number r ≡ 6
  -- how long the results are
  pub forth-long : (t : List ℕ) (room n : ℕ) → forth_answer t room ≡ Ok n → (n ≡ length t + 2) × (n ≤ 57)
  pub back-long : (t : List ℕ) (room n : ℕ) → back_answer t room ≡ Ok n → (n + 2 ≡ length t) × (n ≤ 55)
  -- written out: a line moved forth; a last-heard time of 1, also where the buffer is too short; the greatest time and the next; one of two zeros
  pub first : line_left 49 (forth_left (bytes "n\t0000\t00000000000000aa\t11\t0\t1\t1\t1\t25\t1\t3\t0011\n") (bytes ".................................................")) ≡ bytes "n\t0000\t00000000000000aa\t11\t0\t1\t1\t1\t25\t1\t3\t0011\t0\n"
  pub known : back_answer (bytes "n\t0000\t00000000000000aa\t11\t0\t1\t1\t1\t25\t1\t3\t0011\t1\n") 47 ≡ Err MoveRefusal.LastHeardKnown
  pub short : back_answer (bytes "n\t0000\t00000000000000aa\t11\t0\t1\t1\t1\t25\t1\t3\t0011\t1\n") 46 ≡ Err MoveRefusal.ShortBuffer
  pub most : back_answer (bytes "n\t0000\t00000000000000aa\t11\t0\t1\t1\t1\t25\t1\t3\t0011\t4294967295\n") 47 ≡ Err MoveRefusal.LastHeardKnown
  pub above : back_answer (bytes "n\t0000\t00000000000000aa\t11\t0\t1\t1\t1\t25\t1\t3\t0011\t4294967296\n") 47 ≡ Err MoveRefusal.NotOfForm
  pub zeros : back_answer (bytes "n\t0000\t00000000000000aa\t11\t0\t1\t1\t1\t25\t1\t3\t0011\t00\n") 0 ≡ Err MoveRefusal.NotOfForm
