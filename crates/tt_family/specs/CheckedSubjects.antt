-- What the check says of a subject: a setting, with the functions that are known where its program
-- starts.
use Rattle.tt_setting.specs.Settings.{setting_of}
use Rattle.tt_abs.specs.Soundness.{IsSafe}
use Rattle.tt_setting.specs.declared.setting.Setting.{Setting as Subject}
use Rattle.tt_family.specs.Checks.{IsBrokenFirst, IsFillingBrokenFirst, Names}
use Rattle.tt_family.specs.Contents.{Contents, family_of}
use Rattle.tt_family.specs.Fillings.{HasGoodFilling, HasSafeFilling}
use Rattle.tt_family.specs.GoodFamilies.{EndsWell, IsGoodFamily, IsShortEnough}
use Rattle.tt_setting.specs.declared.refusal.Refusal.{Refusal}
use Rattle.tt_family.specs.declared.listing.Listing.{Listing}
use Rattle.tt_family.specs.declared.listing.Listing.TheVariants as listing

-- the program, if it is a glyph program, has at most maxSizeOfInstructions bytes
abbrev pub IsShortFor : Subject → Type 0
IsShortFor x = IsShortEnough (setting_of x) (setting_of x).kind

-- the family has a state at the program's end, if it must have one
abbrev pub EndsWellFor : Subject → Contents → Type 0
EndsWellFor x contents = EndsWell (setting_of x) (setting_of x).kind (family_of contents)

-- the family is good for the program
abbrev pub IsGoodFor : Subject → Contents → Type 0
IsGoodFor x contents = IsGoodFamily (setting_of x) x.start.now (family_of contents)

-- the family covers every machine of a run, and none of these faults
abbrev pub IsSafeFor : Subject → Contents → Type 0
IsSafeFor x contents = IsSafe (setting_of x) x.start.now (family_of contents)

-- the family can be filled up to a good one
abbrev pub HasGoodFillingFor : Subject → Contents → Type 0
HasGoodFillingFor x contents = HasGoodFilling (setting_of x) x.start.now (family_of contents)

-- the family can be filled up to one that covers every machine of a run, and none of these faults
abbrev pub HasSafeFillingFor : Subject → Contents → Type 0
HasSafeFillingFor x contents = HasSafeFilling (setting_of x) x.start.now (family_of contents)

-- the fault names what is broken first of a whole family
abbrev pub NamesBrokenFirst : Subject → Contents → Refusal → Type 0
NamesBrokenFirst x contents = Names (IsBrokenFirst (setting_of x) x.start.now contents)

-- the fault names what is broken first of a family that may leave states out
abbrev pub NamesFillingBrokenFirst : Subject → Contents → Refusal → Type 0
NamesFillingBrokenFirst x contents =
    Names (IsFillingBrokenFirst (setting_of x) x.start.now contents)

-- the family is good as it is listed: whole, or with states that a filling adds
abbrev pub IsGoodListingFor : Subject → Listing → Contents → Type 0
IsGoodListingFor x listing.Whole contents = IsGoodFor x contents
IsGoodListingFor x listing.Sparse contents = HasGoodFillingFor x contents

-- the family, or its filling, covers every machine of a run, and none of these faults
abbrev pub IsSafeListingFor : Subject → Listing → Contents → Type 0
IsSafeListingFor x listing.Whole contents = IsSafeFor x contents
IsSafeListingFor x listing.Sparse contents = HasSafeFillingFor x contents

-- the fault names what is broken first of the family as it is listed
abbrev pub NamesListingBrokenFirst : Subject → Listing → Contents → Refusal → Type 0
NamesListingBrokenFirst x listing.Whole contents = NamesBrokenFirst x contents
NamesListingBrokenFirst x listing.Sparse contents = NamesFillingBrokenFirst x contents
