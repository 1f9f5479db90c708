-- The texts of reasons, as C takes them.
use Rattle.std.specs.Prelude.{ℕ, ◌-◌, ◌++◌, List, length, replicate}

-- a text in 24 bytes: after it are zeros, of which the first ends it for C
abbrev pub c_string : List ℕ → List ℕ
c_string text = text ++ replicate (24 - length text) 0
