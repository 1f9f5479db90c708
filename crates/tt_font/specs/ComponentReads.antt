-- How often a `ComponentReader` has read components.
use Rattle.std.specs.Prelude.{◌≡◌, ℕ, ◌+◌, ◌^◌, ◌<◌, ◌≤◌}
use Rattle.tt_font.specs.declared.component.ComponentReader.{ComponentReader}

-- a reader can count n components more, and one after them
abbrev pub HasRoom : ComponentReader → ℕ → Type 0
HasRoom reader n = reader.reads + n + 1 < 2 ^ 64

-- from one moment to another a reader has read n components
abbrev pub HasRead : ComponentReader → ComponentReader → ℕ → Type 0
HasRead before after n = after.reads ≡ before.reads + n

-- it has read at least n of them
abbrev pub HasReadAtLeast : ComponentReader → ComponentReader → ℕ → Type 0
HasReadAtLeast before after n = before.reads + n ≤ after.reads

-- it has read at most n of them
abbrev pub HasReadAtMost : ComponentReader → ComponentReader → ℕ → Type 0
HasReadAtMost before after n = after.reads ≤ before.reads + n
