-- The bytes of a font file that is read. (Representation.)
use Rattle.std.specs.Prelude.{◌≡◌, ℕ, ◌<◌, List, None}
use Rattle.std.specs.List.{AllByRecursion}
use Rattle.tt_font.specs.FileFaults.{font_fault}
use Rattle.hintcheck_c.specs.FontFiles.{file_fault, font_file}

-- the bytes have this face, and its font file is one of bytes that has no fault
pub record IsRead (face : ℕ) (bytes : List ℕ) : Type 0 where
  pub has_face : file_fault face bytes ≡ None
  pub are_bytes : AllByRecursion (λ b. b < 256) (font_file face bytes)
  pub is_font : font_fault (font_file face bytes) ≡ None
