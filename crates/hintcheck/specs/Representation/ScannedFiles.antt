-- What a scan prints of font files, as the code hands it on.
use Rattle.std.specs.Prelude.{◌≡◌, ℕ, All, List, length, Option}
use Rattle.hintcheck.specs.FontLabels.{AreOf, Label}
use Rattle.hintcheck.specs.Representation.Known.{are_alone, is_listed_by}
use Rattle.hintcheck.specs.ScannedNames.{HoldsOfLabels}
use Rattle.hintcheck.specs.Scans.{PrintsScan}
use Rattle.hintcheck.specs.declared.commands.font_label.FontLabel.{FontLabel}
use Rattle.hintcheck.specs.declared.commands.scan_task.Plan.{Plan}

-- what a font file is called
abbrev pub label_of : FontLabel → Label
label_of l = record { file = l.file.now; face = l.face }

-- font files with these labels were scanned as planned
abbrev pub ScansLabels : Plan → List Label → ℕ → Option (List ℕ) → Option (List ℕ) → Type 0
ScansLabels plan labels status old new = PrintsScan plan.options
    (are_alone plan.options plan.known.now) (is_listed_by plan.known.now) labels status old new

-- the font file with this name was scanned as planned, as one or by faces
abbrev pub ScansFile : Plan → List ℕ → ℕ → Option (List ℕ) → Option (List ℕ) → Type 0
ScansFile plan file status old new =
    (labels : List Label) × AreOf file labels × ScansLabels plan labels status old new

-- font files with these names were scanned as planned
abbrev pub ScansFiles : Plan → List (List ℕ) → ℕ → Option (List ℕ) → Option (List ℕ) → Type 0
ScansFiles plan names status old new =
    HoldsOfLabels names (λ labels. ScansLabels plan labels status old new)

-- This many faces of a file were scanned as planned.
pub record ScansFaces (plan : Plan) (file : List ℕ) (count status : ℕ)
    (old new : Option (List ℕ)) : Type 0 where
  pub labels : List Label
  pub count_is : length labels ≡ count
  pub faces : All (λ l. l.file ≡ file) labels
  pub scanned : ScansLabels plan labels status old new
