-- The numbers of the faults. (Own: the numbers are this product's.)
use Rattle.std.specs.Prelude.{ℕ}
use Rattle.tt_font.specs.declared.fault.FontFault.{FontFault}
use Rattle.tt_font.specs.declared.fault.FontFault.TheVariants.{NotSfnt, DirectoryTruncated, MissingTable, TableOutside, MaxpVersion, Loca, GlyphTruncated, Composite, OutOfMemory}

-- a fault's number, which is printed before its text
abbrev pub fault_number : FontFault → ℕ
fault_number NotSfnt = 1
fault_number DirectoryTruncated = 2
fault_number (MissingTable tag) = 3
fault_number (TableOutside tag) = 4
fault_number MaxpVersion = 5
fault_number (Loca entry) = 6
fault_number (GlyphTruncated id) = 7
fault_number (Composite id) = 8
fault_number (OutOfMemory error) = 9
