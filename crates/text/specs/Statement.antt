-- What is claimed of decimals: a number is written so that it is read as itself.
-- (01, "The yard list": "no leading zero"; 02, L3: "each unsigned 32-bit number".)
use Rattle.std.specs.Prelude.{ℕ, ◌<◌, ◌≤◌, ◌≡◌, Some}
use Rattle.text.specs.Text.{bytes, decimal_of, decimal_text, right_text}

pub record Decimals : Type 0 where
  pub read_back : (n limit : ℕ) → n < 4294967296 → n ≤ limit → decimal_of limit (decimal_text n) ≡ Some n
  -- written out: 0, ten, every digit, and the greatest number
  pub none : decimal_text 0 ≡ bytes "0"
  pub ten : decimal_text 10 ≡ bytes "10"
  pub each : decimal_text 1234567890 ≡ bytes "1234567890"
  pub most : decimal_text 4294967295 ≡ bytes "4294967295"
  -- right-aligned: in more characters than it has digits, and in fewer
  pub fits : right_text 3 (decimal_text 7) ≡ bytes "  7"
  pub long : right_text 2 (decimal_text 123) ≡ bytes "23"
