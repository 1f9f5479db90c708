-- What font files are called where a scan tells of them. (Own: the form of the text, as `uming.ttc#2`.)
use Rattle.std.specs.Prelude.{◌≡◌, ◌≢◌, ℕ, All, codes, List, [], ◌∷◌, ◌++◌, None, Option, Some}
use Rattle.std.specs.Fmt.{decimal}

-- the name of a file, and the number of its face where the file is a collection
pub record Label : Type 0 where
  pub file : List ℕ
  pub face : Option ℕ

-- the number of a face after the name of its file, as `#2`
abbrev pub face_text : Option ℕ → List ℕ
face_text None = []
face_text (Some number) = codes "#" ++ decimal number

-- the label as a line of known refusals has it
abbrev pub label_text : Label → List ℕ
label_text label = label.file ++ face_text label.face

-- labels of the file with this name, at least one: of the file itself, or of faces
abbrev pub AreOf : List ℕ → List Label → Type 0
AreOf file labels = labels ≢ [] × All (λ l. l.file ≡ file) labels

-- Labels of the files with these names, in their order, of each at least one.
pub data AreLabels : List (List ℕ) → List Label → Type 0 where
  none : AreLabels [] []
  more : (files : List (List ℕ)) (file : List ℕ) (labels own : List Label)
      → AreLabels files labels → AreOf file own → AreLabels (files ++ file ∷ []) (labels ++ own)
