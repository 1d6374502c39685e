-- What a private method says. No public promise uses it.
use Rattle.std.specs.Prelude.{ℕ, ◌+◌, ◌-◌, min, length}
use Rattle.text.specs.declared.writer.Writer.{Writer}

-- the place goes on by as many of n bytes as fit behind it
abbrev pub advanced : Writer → ℕ → Writer
advanced w n = record w { at = w.at + min n (length w.out.now - w.at) }
