-- Which font files the words of a scan stand for, and what they are called.
use Rattle.std.specs.Prelude.{ℕ, List, [], ◌∷◌, None, Option, Some}
use Rattle.hintcheck_words.specs.declared.words.FontWords.{FontWords}
use Rattle.hintcheck_words.specs.declared.words.FontWords.TheVariants as font_words
use Rattle.hintcheck.specs.FontLabels.{AreLabels, Label}

-- What holds of the names of a scan's font files: they are the words; or the words name files that list
-- them, and it holds of some names, since no contract of the runtime tells which bytes a file has.
abbrev pub HoldsOfNames : FontWords → List (List ℕ) → (List (List ℕ) → Type 0) → Type 0
HoldsOfNames font_words.Fonts words P = P words
HoldsOfNames other words P = (names : List (List ℕ)) × P names

-- the names by which font files are told: a name that is given stands for the only one
abbrev pub shown_names : Option (List ℕ) → List (List ℕ) → List (List ℕ)
shown_names None names = names
shown_names (Some name) names = name ∷ []

-- What holds of the labels of font files with these names.
abbrev pub HoldsOfLabels : List (List ℕ) → (List Label → Type 0) → Type 0
HoldsOfLabels names P = (labels : List Label) × AreLabels names labels × P labels

-- What holds of the labels of a scan's font files, whose name may be given. A collection has a label
-- for each face that is scanned: no contract of the runtime tells which files are collections.
abbrev pub HoldsOfScanned : FontWords → List (List ℕ) → Option (List ℕ) → (List Label → Type 0)
    → Type 0
HoldsOfScanned given words name P =
    HoldsOfNames given words (λ names. HoldsOfLabels (shown_names name names) P)
