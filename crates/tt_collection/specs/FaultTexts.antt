-- The faults in words. (Own: the texts are this product's.)
use Rattle.std.specs.Prelude.{codes, List, ◌++◌, ℕ}
use Rattle.std.specs.Fmt.{decimal}
use Rattle.tt_collection.specs.declared.fault.CollectionFault.{CollectionFault}
use Rattle.tt_collection.specs.declared.fault.CollectionFault.TheVariants.{NotCollection, HeaderTruncated, NoFace, MissingFace, DirectoryOutside, OffsetTooLarge, OutOfMemory}

-- the fault in words, as it is printed
abbrev pub fault_text : CollectionFault → List ℕ
fault_text NotCollection = codes "not a collection of version 1.0 or 2.0"
fault_text HeaderTruncated = codes "collection header truncated"
fault_text NoFace = codes "collection without a face"
fault_text (MissingFace number count) =
    codes "missing face " ++ (decimal number ++ (codes " of " ++ decimal count))
fault_text (DirectoryOutside number) =
    codes "directory of face " ++ (decimal number ++ codes " outside")
fault_text (OffsetTooLarge number index) =
    codes "offset of record " ++ (decimal index
    ++ (codes " of face " ++ (decimal number ++ codes " too large")))
fault_text (OutOfMemory error) = codes "out of memory"
