-- A beacon's stack profile field gives its five parts back, so that none is lost. Assumes nothing.
use Prim.Native.Nat.{ℕ, ◌<◌, ◌/◌, ◌%◌}
use mathlib.Core.Path.{◌≡◌, ap}
use native.Mathlib.Omega.{arith}
use lib.Dec.{eqb}
use Rattle.nib.specs.Bits.{bit}
use Rattle.nib.specs.Bits.{bits}
use Rattle.trace_input.specs.TraceInput.{packed}

module _ (profile version router depth device : ℕ) (h : profile < 16) (h1 : version < 16) (h2 : router < 2) (h3 : depth < 16) (h4 : device < 2) where
  pub profile-kept : bits 0 4 (packed profile version router depth device) ≡ profile
  profile-kept = omega arith

  pub version-kept : bits 4 4 (packed profile version router depth device) ≡ version
  version-kept = omega arith

  pub depth-kept : bits 11 4 (packed profile version router depth device) ≡ depth
  depth-kept = omega arith

  pub router-kept : bit 10 (packed profile version router depth device) ≡ eqb router 1
  router-kept =
      let e : packed profile version router depth device / 1024 % 2 ≡ router = omega arith in
      ap (λ (n : ℕ). eqb n 1) e

  pub device-kept : bit 15 (packed profile version router depth device) ≡ eqb device 1
  device-kept =
      let e : packed profile version router depth device / 32768 % 2 ≡ device = omega arith in
      ap (λ (n : ℕ). eqb n 1) e
