-- Laws of conditions. Assumes nothing.
use mathlib.Core.Path.{◌≡◌, refl, sym}
use mathlib.Core.Bool.{Bool, true, false, cond, false≢true}

-- the two cases of a test; a fact of a condition; and a relation between two conditions with equal tests
pub split : (b : Bool) {P : Type 0} → (b ≡ true → P) → (b ≡ false → P) → P
split true f g = f refl
split false f g = g refl

pub by_cases : {A : Type 0} (P : A → Type 0) (b : Bool) {x y : A} → (b ≡ true → P x) → P y → P (cond b x y)
by_cases P true p q = p refl
by_cases P false p q = q

pub both-cases : {A : Type 0} (R : A → A → Type 0) (b c : Bool) {x x' y y' : A} → b ≡ c → (b ≡ true → R x y) → (b ≡ false → R x' y') → R (cond b x x') (cond c y y')
both-cases R true true e f g = f refl
both-cases R true false e f g = absurd (false≢true (sym e))
both-cases R false true e f g = absurd (false≢true e)
both-cases R false false e f g = g refl
