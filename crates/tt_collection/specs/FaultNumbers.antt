-- The numbers of the faults. (Own: the numbers are this product's.)
use Rattle.std.specs.Prelude.{ℕ}
use Rattle.tt_collection.specs.declared.fault.CollectionFault.{CollectionFault}
use Rattle.tt_collection.specs.declared.fault.CollectionFault.TheVariants.{NotCollection, HeaderTruncated, NoFace, MissingFace, DirectoryOutside, OffsetTooLarge, OutOfMemory}

-- a fault's number, which is printed before its text
abbrev pub fault_number : CollectionFault → ℕ
fault_number NotCollection = 10
fault_number HeaderTruncated = 11
fault_number NoFace = 12
fault_number (MissingFace number count) = 13
fault_number (DirectoryOutside number) = 14
fault_number (OffsetTooLarge number index) = 15
fault_number (OutOfMemory error) = 9
