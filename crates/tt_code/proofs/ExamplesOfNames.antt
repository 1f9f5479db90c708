-- The names of all instruction codes.
use Rattle.std.proofs.Common.{◌≡◌, ℕ, [], ◌∷◌, None, map, codes, refl}
use Rattle.tt_code.specs.Table.{name_of}
use Rattle.tt_code.specs.Entries.{codes_from}
use Rattle.tt_code.proofs.Running.{each_is_named}

names_of_vectors :
    each_is_named
    ((0x00 ∷ 0x01 ∷ [], codes "SVTCA") ∷ (0x02 ∷ 0x03 ∷ [], codes "SPVTCA") ∷ (0x04 ∷ 0x05 ∷ [], codes "SFVTCA")
    ∷ (0x06 ∷ 0x07 ∷ [], codes "SPVTL") ∷ (0x08 ∷ 0x09 ∷ [], codes "SFVTL") ∷ (0x0a ∷ [], codes "SPVFS") ∷ (0x0b ∷ [], codes "SFVFS")
    ∷ (0x0c ∷ [], codes "GPV") ∷ (0x0d ∷ [], codes "GFV") ∷ (0x0e ∷ [], codes "SFVTPV") ∷ (0x86 ∷ 0x87 ∷ [], codes "SDPVTL") ∷ [])
unfolding name_of
names_of_vectors = refl

names_of_graphics_state :
    each_is_named
    ((0x10 ∷ [], codes "SRP0") ∷ (0x11 ∷ [], codes "SRP1") ∷ (0x12 ∷ [], codes "SRP2") ∷ (0x13 ∷ [], codes "SZP0")
    ∷ (0x14 ∷ [], codes "SZP1") ∷ (0x15 ∷ [], codes "SZP2") ∷ (0x16 ∷ [], codes "SZPS") ∷ (0x17 ∷ [], codes "SLOOP")
    ∷ (0x1a ∷ [], codes "SMD") ∷ (0x1d ∷ [], codes "SCVTCI") ∷ (0x1e ∷ [], codes "SSWCI") ∷ (0x1f ∷ [], codes "SSW")
    ∷ (0x5e ∷ [], codes "SDB") ∷ (0x5f ∷ [], codes "SDS") ∷ (0x4d ∷ [], codes "FLIPON") ∷ (0x4e ∷ [], codes "FLIPOFF")
    ∷ (0x7e ∷ [], codes "SANGW") ∷ (0x7f ∷ [], codes "AA") ∷ (0x85 ∷ [], codes "SCANCTRL") ∷ (0x8d ∷ [], codes "SCANTYPE")
    ∷ (0x8e ∷ [], codes "INSTCTRL") ∷ [])
unfolding name_of
names_of_graphics_state = refl

names_of_rounding :
    each_is_named
    ((0x18 ∷ [], codes "RTG") ∷ (0x19 ∷ [], codes "RTHG") ∷ (0x3d ∷ [], codes "RTDG") ∷ (0x7a ∷ [], codes "ROFF")
    ∷ (0x7c ∷ [], codes "RUTG") ∷ (0x7d ∷ [], codes "RDTG") ∷ (0x76 ∷ [], codes "SROUND") ∷ (0x77 ∷ [], codes "S45ROUND")
    ∷ (0x68 ∷ 0x69 ∷ 0x6a ∷ 0x6b ∷ [], codes "ROUND") ∷ (0x6c ∷ 0x6d ∷ 0x6e ∷ 0x6f ∷ [], codes "NROUND") ∷ (0x56 ∷ [], codes "ODD")
    ∷ (0x57 ∷ [], codes "EVEN") ∷ (0x66 ∷ [], codes "FLOOR") ∷ (0x67 ∷ [], codes "CEILING") ∷ [])
unfolding name_of
names_of_rounding = refl

names_of_points :
    each_is_named
    ((0x0f ∷ [], codes "ISECT") ∷ (0x27 ∷ [], codes "ALIGNPTS") ∷ (0x29 ∷ [], codes "UTP") ∷ (0x2e ∷ 0x2f ∷ [], codes "MDAP")
    ∷ (0x30 ∷ 0x31 ∷ [], codes "IUP") ∷ (0x32 ∷ 0x33 ∷ [], codes "SHP") ∷ (0x34 ∷ 0x35 ∷ [], codes "SHC") ∷ (0x36 ∷ 0x37 ∷ [], codes "SHZ")
    ∷ (0x38 ∷ [], codes "SHPIX") ∷ (0x39 ∷ [], codes "IP") ∷ (0x3a ∷ 0x3b ∷ [], codes "MSIRP") ∷ (0x3c ∷ [], codes "ALIGNRP")
    ∷ (0x3e ∷ 0x3f ∷ [], codes "MIAP") ∷ (codes_from 0xc0 32, codes "MDRP") ∷ (codes_from 0xe0 32, codes "MIRP")
    ∷ (0x80 ∷ [], codes "FLIPPT") ∷ (0x81 ∷ [], codes "FLIPRGON") ∷ (0x82 ∷ [], codes "FLIPRGOFF") ∷ [])
unfolding name_of
names_of_points = refl

names_of_measures :
    each_is_named
    ((0x42 ∷ [], codes "WS") ∷ (0x43 ∷ [], codes "RS") ∷ (0x44 ∷ [], codes "WCVTP") ∷ (0x45 ∷ [], codes "RCVT")
    ∷ (0x46 ∷ 0x47 ∷ [], codes "GC") ∷ (0x48 ∷ [], codes "SCFS") ∷ (0x49 ∷ 0x4a ∷ [], codes "MD") ∷ (0x4b ∷ [], codes "MPPEM")
    ∷ (0x4c ∷ [], codes "MPS") ∷ (0x70 ∷ [], codes "WCVTF") ∷ (0x88 ∷ [], codes "GETINFO") ∷ (0x4f ∷ [], codes "DEBUG") ∷ [])
unfolding name_of
names_of_measures = refl

names_of_deltas :
    each_is_named
    ((0x5d ∷ [], codes "DELTAP1") ∷ (0x71 ∷ [], codes "DELTAP2") ∷ (0x72 ∷ [], codes "DELTAP3") ∷ (0x73 ∷ [], codes "DELTAC1")
    ∷ (0x74 ∷ [], codes "DELTAC2") ∷ (0x75 ∷ [], codes "DELTAC3") ∷ [])
unfolding name_of
names_of_deltas = refl

names_of_pushes :
    each_is_named
    ((0x40 ∷ [], codes "NPUSHB") ∷ (0x41 ∷ [], codes "NPUSHW") ∷ (codes_from 0xb0 8, codes "PUSHB") ∷ (codes_from 0xb8 8, codes "PUSHW")
    ∷ [])
unfolding name_of
names_of_pushes = refl

names_of_stack :
    each_is_named
    ((0x20 ∷ [], codes "DUP") ∷ (0x21 ∷ [], codes "POP") ∷ (0x22 ∷ [], codes "CLEAR") ∷ (0x23 ∷ [], codes "SWAP")
    ∷ (0x24 ∷ [], codes "DEPTH") ∷ (0x25 ∷ [], codes "CINDEX") ∷ (0x26 ∷ [], codes "MINDEX") ∷ (0x8a ∷ [], codes "ROLL") ∷ [])
unfolding name_of
names_of_stack = refl

names_of_arithmetic :
    each_is_named
    ((0x60 ∷ [], codes "ADD") ∷ (0x61 ∷ [], codes "SUB") ∷ (0x62 ∷ [], codes "DIV") ∷ (0x63 ∷ [], codes "MUL") ∷ (0x64 ∷ [], codes "ABS")
    ∷ (0x65 ∷ [], codes "NEG") ∷ (0x8b ∷ [], codes "MAX") ∷ (0x8c ∷ [], codes "MIN") ∷ (0x50 ∷ [], codes "LT") ∷ (0x51 ∷ [], codes "LTEQ")
    ∷ (0x52 ∷ [], codes "GT") ∷ (0x53 ∷ [], codes "GTEQ") ∷ (0x54 ∷ [], codes "EQ") ∷ (0x55 ∷ [], codes "NEQ") ∷ (0x5a ∷ [], codes "AND")
    ∷ (0x5b ∷ [], codes "OR") ∷ (0x5c ∷ [], codes "NOT") ∷ [])
unfolding name_of
names_of_arithmetic = refl

names_of_control :
    each_is_named
    ((0x58 ∷ [], codes "IF") ∷ (0x1b ∷ [], codes "ELSE") ∷ (0x59 ∷ [], codes "EIF") ∷ (0x1c ∷ [], codes "JMPR") ∷ (0x78 ∷ [], codes "JROT")
    ∷ (0x79 ∷ [], codes "JROF") ∷ (0x2a ∷ [], codes "LOOPCALL") ∷ (0x2b ∷ [], codes "CALL") ∷ (0x2c ∷ [], codes "FDEF")
    ∷ (0x2d ∷ [], codes "ENDF") ∷ (0x89 ∷ [], codes "IDEF") ∷ [])
unfolding name_of
names_of_control = refl

other_codes_have_no_name :
    map name_of (0x28 ∷ 0x7b ∷ 0x83 ∷ 0x84 ∷ 0x8f ∷ codes_from 0x90 32)
    ≡ map (λ (code : ℕ). None) (0x28 ∷ 0x7b ∷ 0x83 ∷ 0x84 ∷ 0x8f ∷ codes_from 0x90 32)
unfolding name_of
other_codes_have_no_name = refl
