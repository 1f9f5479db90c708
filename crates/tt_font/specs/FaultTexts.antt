-- The faults in words. (Own: the texts are this product's.)
use Rattle.std.specs.Prelude.{codes, List, ◌++◌, ℕ}
use Rattle.std.specs.Fmt.{decimal}
use Rattle.tt_font.specs.Tags.{tag_bytes}
use Rattle.tt_font.specs.declared.fault.FontFault.{FontFault}
use Rattle.tt_font.specs.declared.fault.FontFault.TheVariants.{NotSfnt, DirectoryTruncated, MissingTable, TableOutside, MaxpVersion, Loca, GlyphTruncated, Composite, OutOfMemory}

-- the fault in words, as it is printed
abbrev pub fault_text : FontFault → List ℕ
fault_text NotSfnt = codes "not an sfnt file"
fault_text DirectoryTruncated = codes "directory truncated"
fault_text (MissingTable tag) = codes "missing table '" ++ (tag_bytes tag ++ codes "'")
fault_text (TableOutside tag) = codes "table outside '" ++ (tag_bytes tag ++ codes "'")
fault_text MaxpVersion = codes "maxp version"
fault_text (Loca entry) = codes "loca entry " ++ decimal entry
fault_text (GlyphTruncated id) = codes "glyph " ++ (decimal id ++ codes " truncated")
fault_text (Composite id) = codes "composite " ++ decimal id
fault_text (OutOfMemory error) = codes "out of memory"
