-- What the lines of the instruction table that push, move, compute and call do. Stacks have their top first.
use Rattle.std.proofs.Common.{◌≡◌, [], ◌∷◌, Some, refl}
use Rattle.std.specs.Prelude.{pos, negsuc}
use Rattle.tt_code.specs.Settings.{One}
use Rattle.tt_code.specs.declared.reason.Reason.TheVariants as reason
use Rattle.tt_code.proofs.Running.{computed, lowest, highest, usual_limits, zones, untouched, seen_at_end, frames_at_fault, functions_left}
use Rattle.tt_code.proofs.ExamplesAsCases.{◌⇒◌, all_hold, ends_with, makes, faults, faults_by}

-- Pushed bytes are unsigned, and the last one is on top. What follows them is an instruction again.
cases_of_pushed_bytes : all_hold (
    -- PUSHB pushes one byte to eight.
    ends_with (0xb0 ∷ 0xfa ∷ 0x18 ∷ []) (pos 250 ∷ [])
    ∷ ends_with (0xb1 ∷ 0xfa ∷ 0xf9 ∷ 0x18 ∷ []) (pos 249 ∷ pos 250 ∷ [])
    ∷ ends_with (0xb2 ∷ 0xfa ∷ 0xf9 ∷ 0xf8 ∷ 0x18 ∷ []) (pos 248 ∷ pos 249 ∷ pos 250 ∷ [])
    ∷ ends_with (0xb3 ∷ 0xfa ∷ 0xf9 ∷ 0xf8 ∷ 0xf7 ∷ 0x18 ∷ []) (pos 247 ∷ pos 248 ∷ pos 249 ∷ pos 250 ∷ [])
    ∷ ends_with (0xb4 ∷ 0xfa ∷ 0xf9 ∷ 0xf8 ∷ 0xf7 ∷ 0xf6 ∷ 0x18 ∷ []) (pos 246 ∷ pos 247 ∷ pos 248 ∷ pos 249 ∷ pos 250 ∷ [])
    ∷ ends_with (0xb5 ∷ 0xfa ∷ 0xf9 ∷ 0xf8 ∷ 0xf7 ∷ 0xf6 ∷ 0xf5 ∷ 0x18 ∷ [])
    (pos 245 ∷ pos 246 ∷ pos 247 ∷ pos 248 ∷ pos 249 ∷ pos 250 ∷ [])
    ∷ ends_with (0xb6 ∷ 0xfa ∷ 0xf9 ∷ 0xf8 ∷ 0xf7 ∷ 0xf6 ∷ 0xf5 ∷ 0xf4 ∷ 0x18 ∷ [])
    (pos 244 ∷ pos 245 ∷ pos 246 ∷ pos 247 ∷ pos 248 ∷ pos 249 ∷ pos 250 ∷ [])
    ∷ ends_with (0xb7 ∷ 0xfa ∷ 0xf9 ∷ 0xf8 ∷ 0xf7 ∷ 0xf6 ∷ 0xf5 ∷ 0xf4 ∷ 0xf3 ∷ 0x18 ∷ [])
    (pos 243 ∷ pos 244 ∷ pos 245 ∷ pos 246 ∷ pos 247 ∷ pos 248 ∷ pos 249 ∷ pos 250 ∷ [])
    -- NPUSHB pushes as many bytes as it counts.
    ∷ ends_with (0x40 ∷ 0x03 ∷ 0x01 ∷ 0xff ∷ 0x80 ∷ 0x18 ∷ []) (pos 128 ∷ pos 255 ∷ pos 1 ∷ [])
    -- NPUSHB may push nothing.
    ∷ ends_with (0x40 ∷ 0x00 ∷ 0xb0 ∷ 0x05 ∷ []) (pos 5 ∷ [])
    ∷ [])
unfolding computed
cases_of_pushed_bytes = refl

-- Pushed words are signed, the high byte first.
cases_of_pushed_words : all_hold (
    -- PUSHW pushes one word to eight.
    ends_with (0xb8 ∷ 0x01 ∷ 0x00 ∷ 0x18 ∷ 0x18 ∷ []) (pos 256 ∷ [])
    ∷ ends_with (0xb9 ∷ 0x01 ∷ 0x01 ∷ 0xff ∷ 0xfd ∷ 0x18 ∷ 0x18 ∷ []) (negsuc 2 ∷ pos 257 ∷ [])
    ∷ ends_with (0xba ∷ 0x01 ∷ 0x02 ∷ 0xff ∷ 0xfc ∷ 0x03 ∷ 0x02 ∷ 0x18 ∷ 0x18 ∷ []) (pos 770 ∷ negsuc 3 ∷ pos 258 ∷ [])
    ∷ ends_with (0xbb ∷ 0x01 ∷ 0x03 ∷ 0xff ∷ 0xfb ∷ 0x03 ∷ 0x03 ∷ 0xff ∷ 0xfb ∷ 0x18 ∷ 0x18 ∷ [])
    (negsuc 4 ∷ pos 771 ∷ negsuc 4 ∷ pos 259 ∷ [])
    ∷ ends_with (0xbc ∷ 0x01 ∷ 0x04 ∷ 0xff ∷ 0xfa ∷ 0x03 ∷ 0x04 ∷ 0xff ∷ 0xfa ∷ 0x05 ∷ 0x04 ∷ 0x18 ∷ 0x18 ∷ [])
    (pos 1284 ∷ negsuc 5 ∷ pos 772 ∷ negsuc 5 ∷ pos 260 ∷ [])
    ∷ ends_with (0xbd ∷ 0x01 ∷ 0x05 ∷ 0xff ∷ 0xf9 ∷ 0x03 ∷ 0x05 ∷ 0xff ∷ 0xf9 ∷ 0x05 ∷ 0x05 ∷ 0xff ∷ 0xf9 ∷ 0x18 ∷ 0x18 ∷ [])
    (negsuc 6 ∷ pos 1285 ∷ negsuc 6 ∷ pos 773 ∷ negsuc 6 ∷ pos 261 ∷ [])
    ∷ ends_with (0xbe ∷ 0x01 ∷ 0x06 ∷ 0xff ∷ 0xf8 ∷ 0x03 ∷ 0x06 ∷ 0xff ∷ 0xf8 ∷ 0x05 ∷ 0x06 ∷ 0xff ∷ 0xf8 ∷ 0x07 ∷ 0x06 ∷ 0x18 ∷ 0x18 ∷ [])
    (pos 1798 ∷ negsuc 7 ∷ pos 1286 ∷ negsuc 7 ∷ pos 774 ∷ negsuc 7 ∷ pos 262 ∷ [])
    ∷ ends_with (0xbf ∷ 0x01 ∷ 0x07 ∷ 0xff ∷ 0xf7 ∷ 0x03 ∷ 0x07 ∷ 0xff ∷ 0xf7 ∷ 0x05 ∷ 0x07 ∷ 0xff ∷ 0xf7 ∷ 0x07 ∷ 0x07 ∷ 0xff ∷ 0xf7 ∷ 0x18
    ∷ 0x18 ∷ []) (negsuc 8 ∷ pos 1799 ∷ negsuc 8 ∷ pos 1287 ∷ negsuc 8 ∷ pos 775 ∷ negsuc 8 ∷ pos 263 ∷ [])
    -- NPUSHW pushes as many words as it counts.
    ∷ ends_with (0x41 ∷ 0x03 ∷ 0x00 ∷ 0x01 ∷ 0xff ∷ 0xff ∷ 0x80 ∷ 0x00 ∷ 0x18 ∷ 0x18 ∷ []) (negsuc 32767 ∷ negsuc 0 ∷ pos 1 ∷ [])
    -- NPUSHW may push nothing.
    ∷ ends_with (0x41 ∷ 0x00 ∷ 0xb0 ∷ 0x05 ∷ []) (pos 5 ∷ [])
    -- A word has its high byte first.
    ∷ ends_with (0xb9 ∷ 0x7f ∷ 0xff ∷ 0x01 ∷ 0x02 ∷ 0x18 ∷ 0x18 ∷ []) (pos 258 ∷ pos 32767 ∷ [])
    ∷ [])
unfolding computed
cases_of_pushed_words = refl

-- Instructions that move the elements of the stack.
cases_of_moved_elements : all_hold (
    -- DUP copies the top.
    makes 0x20 ((pos 1 ∷ pos 2 ∷ [], pos 1 ∷ pos 1 ∷ pos 2 ∷ []) ∷ (negsuc 0 ∷ [], negsuc 0 ∷ negsuc 0 ∷ []) ∷ [])
    -- DUP needs an element.
    ∷ faults (0x20 ∷ []) (zones One One One) ([] ∷ []) reason.Underflow
    -- DUP needs room.
    ∷ faults (0x20 ∷ []) (zones One One One) ((pos 1 ∷ pos 2 ∷ pos 3 ∷ pos 4 ∷ pos 5 ∷ pos 6 ∷ pos 7 ∷ pos 8 ∷ []) ∷ []) reason.Overflow
    -- POP removes the top.
    ∷ makes 0x21 ((pos 1 ∷ pos 2 ∷ [], pos 2 ∷ []) ∷ (negsuc 0 ∷ [], []) ∷ [])
    -- POP takes one element.
    ∷ faults (0x21 ∷ []) (zones One One One) ([] ∷ []) reason.Underflow
    -- CLEAR removes all.
    ∷ makes 0x22 ((pos 1 ∷ pos 2 ∷ pos 3 ∷ [], []) ∷ ([], []) ∷ [])
    -- SWAP exchanges the two upper elements.
    ∷ makes 0x23 ((pos 1 ∷ pos 2 ∷ pos 3 ∷ [], pos 2 ∷ pos 1 ∷ pos 3 ∷ []) ∷ [])
    -- SWAP needs two elements.
    ∷ faults (0x23 ∷ []) (zones One One One) ([] ∷ (pos 1 ∷ []) ∷ []) reason.Underflow
    -- DEPTH pushes the depth before it.
    ∷ makes 0x24 ((pos 4 ∷ pos 4 ∷ [], pos 2 ∷ pos 4 ∷ pos 4 ∷ []) ∷ ([], pos 0 ∷ []) ∷ [])
    -- DEPTH needs room.
    ∷ faults (0x24 ∷ []) (zones One One One) ((pos 1 ∷ pos 2 ∷ pos 3 ∷ pos 4 ∷ pos 5 ∷ pos 6 ∷ pos 7 ∷ pos 8 ∷ []) ∷ []) reason.Overflow
    -- CINDEX copies an element by its index.
    ∷ makes 0x25 ((pos 3 ∷ pos 5 ∷ pos 6 ∷ pos 8 ∷ pos 9 ∷ [], pos 8 ∷ pos 5 ∷ pos 6 ∷ pos 8 ∷ pos 9 ∷ [])
    ∷ (pos 1 ∷ pos 5 ∷ pos 6 ∷ [], pos 5 ∷ pos 5 ∷ pos 6 ∷ []) ∷ (pos 2 ∷ pos 3 ∷ pos 2 ∷ pos 1 ∷ [], pos 2 ∷ pos 3 ∷ pos 2 ∷ pos 1 ∷ [])
    ∷ [])
    -- CINDEX counts from one.
    ∷ faults (0x25 ∷ []) (zones One One One) ((pos 0 ∷ pos 5 ∷ []) ∷ (negsuc 0 ∷ pos 5 ∷ []) ∷ (pos 0 ∷ []) ∷ []) reason.Count
    -- CINDEX needs an index and as many elements.
    ∷ faults (0x25 ∷ []) (zones One One One) ([] ∷ (pos 1 ∷ []) ∷ (pos 3 ∷ pos 5 ∷ pos 6 ∷ []) ∷ []) reason.Underflow
    -- MINDEX moves an element by its index.
    ∷ makes 0x26 ((pos 3 ∷ pos 5 ∷ pos 6 ∷ pos 8 ∷ pos 9 ∷ [], pos 8 ∷ pos 5 ∷ pos 6 ∷ pos 9 ∷ [])
    ∷ (pos 1 ∷ pos 5 ∷ pos 6 ∷ [], pos 5 ∷ pos 6 ∷ []) ∷ (pos 3 ∷ pos 3 ∷ pos 2 ∷ pos 1 ∷ [], pos 1 ∷ pos 3 ∷ pos 2 ∷ []) ∷ [])
    -- MINDEX counts from one.
    ∷ faults (0x26 ∷ []) (zones One One One) ((pos 0 ∷ pos 5 ∷ []) ∷ (negsuc 0 ∷ pos 5 ∷ []) ∷ (pos 0 ∷ []) ∷ []) reason.Count
    -- MINDEX needs an index and as many elements.
    ∷ faults (0x26 ∷ []) (zones One One One) ([] ∷ (pos 1 ∷ []) ∷ (pos 3 ∷ pos 5 ∷ pos 6 ∷ []) ∷ []) reason.Underflow
    -- ROLL brings the third element to the top.
    ∷ makes 0x8a ((pos 1 ∷ pos 2 ∷ pos 3 ∷ pos 4 ∷ [], pos 3 ∷ pos 1 ∷ pos 2 ∷ pos 4 ∷ []) ∷ [])
    -- ROLL needs three elements.
    ∷ faults (0x8a ∷ []) (zones One One One) ([] ∷ (pos 1 ∷ []) ∷ (pos 1 ∷ pos 2 ∷ []) ∷ []) reason.Underflow
    ∷ [])
unfolding computed
cases_of_moved_elements = refl

-- Sums are exact where they are numbers of the machine, and otherwise any number.
cases_of_sums : all_hold (
    -- ADD gives the sum.
    makes 0x60 ((pos 1 ∷ pos 2147483646 ∷ pos 9 ∷ [], pos 2147483647 ∷ pos 9 ∷ []) ∷ (negsuc 0 ∷ negsuc 2147483646 ∷ [], lowest ∷ [])
    ∷ (pos 3 ∷ negsuc 4 ∷ [], negsuc 1 ∷ []) ∷ [])
    -- ADD gives any number outside the range.
    ∷ makes 0x60 ((pos 1 ∷ highest ∷ pos 9 ∷ [], pos 7 ∷ pos 9 ∷ []) ∷ (negsuc 0 ∷ lowest ∷ [], pos 7 ∷ []) ∷ [])
    -- SUB takes the top from the second.
    ∷ makes 0x61 ((pos 7 ∷ pos 5 ∷ pos 9 ∷ [], negsuc 1 ∷ pos 9 ∷ []) ∷ (lowest ∷ negsuc 0 ∷ [], highest ∷ []) ∷ [])
    -- SUB gives any number outside the range.
    ∷ makes 0x61 ((pos 1 ∷ lowest ∷ pos 9 ∷ [], pos 7 ∷ pos 9 ∷ []) ∷ (lowest ∷ pos 0 ∷ [], pos 7 ∷ []) ∷ [])
    -- ABS gives the absolute value.
    ∷ makes 0x64 ((negsuc 4 ∷ pos 9 ∷ [], pos 5 ∷ pos 9 ∷ []) ∷ (pos 5 ∷ [], pos 5 ∷ []) ∷ (pos 0 ∷ [], pos 0 ∷ [])
    ∷ (highest ∷ [], highest ∷ []) ∷ (negsuc 2147483646 ∷ [], highest ∷ []) ∷ [])
    -- ABS gives any number for the lowest.
    ∷ makes 0x64 ((lowest ∷ pos 9 ∷ [], pos 7 ∷ pos 9 ∷ []) ∷ [])
    -- NEG gives the opposite.
    ∷ makes 0x65 ((pos 5 ∷ pos 9 ∷ [], negsuc 4 ∷ pos 9 ∷ []) ∷ (negsuc 4 ∷ [], pos 5 ∷ []) ∷ (pos 0 ∷ [], pos 0 ∷ [])
    ∷ (highest ∷ [], negsuc 2147483646 ∷ []) ∷ [])
    -- NEG gives any number for the lowest.
    ∷ makes 0x65 ((lowest ∷ pos 9 ∷ [], pos 7 ∷ pos 9 ∷ []) ∷ [])
    ∷ [])
unfolding computed
cases_of_sums = refl

-- Comparisons of the second element with the top are signed. Every number but zero is true.
cases_of_comparisons_and_logic : all_hold (
    -- LT is 1 where the second is below the top.
    makes 0x50 ((pos 2 ∷ pos 1 ∷ pos 9 ∷ [], pos 1 ∷ pos 9 ∷ []) ∷ (pos 1 ∷ pos 2 ∷ pos 9 ∷ [], pos 0 ∷ pos 9 ∷ [])
    ∷ (pos 2 ∷ pos 2 ∷ pos 9 ∷ [], pos 0 ∷ pos 9 ∷ []) ∷ (pos 1 ∷ negsuc 0 ∷ pos 9 ∷ [], pos 1 ∷ pos 9 ∷ [])
    ∷ (negsuc 0 ∷ pos 1 ∷ pos 9 ∷ [], pos 0 ∷ pos 9 ∷ []) ∷ (highest ∷ lowest ∷ pos 9 ∷ [], pos 1 ∷ pos 9 ∷ []) ∷ [])
    -- LTEQ is 1 where the second is at most the top.
    ∷ makes 0x51 ((pos 2 ∷ pos 1 ∷ pos 9 ∷ [], pos 1 ∷ pos 9 ∷ []) ∷ (pos 1 ∷ pos 2 ∷ pos 9 ∷ [], pos 0 ∷ pos 9 ∷ [])
    ∷ (pos 2 ∷ pos 2 ∷ pos 9 ∷ [], pos 1 ∷ pos 9 ∷ []) ∷ (pos 1 ∷ negsuc 0 ∷ pos 9 ∷ [], pos 1 ∷ pos 9 ∷ [])
    ∷ (negsuc 0 ∷ pos 1 ∷ pos 9 ∷ [], pos 0 ∷ pos 9 ∷ []) ∷ (highest ∷ lowest ∷ pos 9 ∷ [], pos 1 ∷ pos 9 ∷ []) ∷ [])
    -- GT is 1 where the second is above the top.
    ∷ makes 0x52 ((pos 2 ∷ pos 1 ∷ pos 9 ∷ [], pos 0 ∷ pos 9 ∷ []) ∷ (pos 1 ∷ pos 2 ∷ pos 9 ∷ [], pos 1 ∷ pos 9 ∷ [])
    ∷ (pos 2 ∷ pos 2 ∷ pos 9 ∷ [], pos 0 ∷ pos 9 ∷ []) ∷ (pos 1 ∷ negsuc 0 ∷ pos 9 ∷ [], pos 0 ∷ pos 9 ∷ [])
    ∷ (negsuc 0 ∷ pos 1 ∷ pos 9 ∷ [], pos 1 ∷ pos 9 ∷ []) ∷ (highest ∷ lowest ∷ pos 9 ∷ [], pos 0 ∷ pos 9 ∷ []) ∷ [])
    -- GTEQ is 1 where the second is at least the top.
    ∷ makes 0x53 ((pos 2 ∷ pos 1 ∷ pos 9 ∷ [], pos 0 ∷ pos 9 ∷ []) ∷ (pos 1 ∷ pos 2 ∷ pos 9 ∷ [], pos 1 ∷ pos 9 ∷ [])
    ∷ (pos 2 ∷ pos 2 ∷ pos 9 ∷ [], pos 1 ∷ pos 9 ∷ []) ∷ (pos 1 ∷ negsuc 0 ∷ pos 9 ∷ [], pos 0 ∷ pos 9 ∷ [])
    ∷ (negsuc 0 ∷ pos 1 ∷ pos 9 ∷ [], pos 1 ∷ pos 9 ∷ []) ∷ (highest ∷ lowest ∷ pos 9 ∷ [], pos 0 ∷ pos 9 ∷ []) ∷ [])
    -- EQ is 1 where both are equal.
    ∷ makes 0x54 ((pos 2 ∷ pos 1 ∷ pos 9 ∷ [], pos 0 ∷ pos 9 ∷ []) ∷ (pos 1 ∷ pos 2 ∷ pos 9 ∷ [], pos 0 ∷ pos 9 ∷ [])
    ∷ (pos 2 ∷ pos 2 ∷ pos 9 ∷ [], pos 1 ∷ pos 9 ∷ []) ∷ (pos 1 ∷ negsuc 0 ∷ pos 9 ∷ [], pos 0 ∷ pos 9 ∷ [])
    ∷ (negsuc 0 ∷ pos 1 ∷ pos 9 ∷ [], pos 0 ∷ pos 9 ∷ []) ∷ (highest ∷ lowest ∷ pos 9 ∷ [], pos 0 ∷ pos 9 ∷ []) ∷ [])
    -- NEQ is 1 where both differ.
    ∷ makes 0x55 ((pos 2 ∷ pos 1 ∷ pos 9 ∷ [], pos 1 ∷ pos 9 ∷ []) ∷ (pos 1 ∷ pos 2 ∷ pos 9 ∷ [], pos 1 ∷ pos 9 ∷ [])
    ∷ (pos 2 ∷ pos 2 ∷ pos 9 ∷ [], pos 0 ∷ pos 9 ∷ []) ∷ (pos 1 ∷ negsuc 0 ∷ pos 9 ∷ [], pos 1 ∷ pos 9 ∷ [])
    ∷ (negsuc 0 ∷ pos 1 ∷ pos 9 ∷ [], pos 1 ∷ pos 9 ∷ []) ∷ (highest ∷ lowest ∷ pos 9 ∷ [], pos 1 ∷ pos 9 ∷ []) ∷ [])
    -- AND is 1 where both are true.
    ∷ makes 0x5a ((pos 0 ∷ pos 0 ∷ pos 9 ∷ [], pos 0 ∷ pos 9 ∷ []) ∷ (pos 0 ∷ pos 5 ∷ pos 9 ∷ [], pos 0 ∷ pos 9 ∷ [])
    ∷ (negsuc 4 ∷ pos 0 ∷ pos 9 ∷ [], pos 0 ∷ pos 9 ∷ []) ∷ (pos 3 ∷ negsuc 4 ∷ pos 9 ∷ [], pos 1 ∷ pos 9 ∷ []) ∷ [])
    -- OR is 1 where one is true.
    ∷ makes 0x5b ((pos 0 ∷ pos 0 ∷ pos 9 ∷ [], pos 0 ∷ pos 9 ∷ []) ∷ (pos 0 ∷ pos 5 ∷ pos 9 ∷ [], pos 1 ∷ pos 9 ∷ [])
    ∷ (negsuc 4 ∷ pos 0 ∷ pos 9 ∷ [], pos 1 ∷ pos 9 ∷ []) ∷ (pos 3 ∷ negsuc 4 ∷ pos 9 ∷ [], pos 1 ∷ pos 9 ∷ []) ∷ [])
    -- NOT is 1 for 0.
    ∷ makes 0x5c ((pos 0 ∷ pos 9 ∷ [], pos 1 ∷ pos 9 ∷ []) ∷ (pos 5 ∷ pos 9 ∷ [], pos 0 ∷ pos 9 ∷ []) ∷ (negsuc 4 ∷ [], pos 0 ∷ []) ∷ [])
    -- Operations on two need two.
    ∷ faults (0x60 ∷ 0x61 ∷ 0x50 ∷ 0x51 ∷ 0x52 ∷ 0x53 ∷ 0x54 ∷ 0x55 ∷ 0x5a ∷ 0x5b ∷ []) (zones One One One) ([] ∷ (pos 1 ∷ []) ∷ [])
    reason.Underflow
    -- Operations on one need one.
    ∷ faults (0x64 ∷ 0x65 ∷ 0x5c ∷ []) (zones One One One) ([] ∷ []) reason.Underflow
    ∷ [])
unfolding computed
cases_of_comparisons_and_logic = refl

-- Programs start with the default graphics state.
programs_start_with_the_default_graphics_state :
    seen_at_end [] ≡ Some (record {
      offset = 0;
      stack = [];
      graphics = record { rp0 = pos 0; rp1 = pos 0; rp2 = pos 0; zp0 = One; zp1 = One; zp2 = One; loop_number = pos 1 };
      cells = untouched;
    })
unfolding computed
programs_start_with_the_default_graphics_state = refl

-- Functions share the frames of a machine: the innermost first.
cases_of_frames : all_hold (
    -- A turn is counted in its frame.
    frames_at_fault (0xb0 ∷ 0x00 ∷ 0x2c ∷ 0x21 ∷ 0x2d ∷ []) [] ((0, 3) ∷ []) (0xb4 ∷ 0x01 ∷ 0x02 ∷ 0x03 ∷ 0x04 ∷ 0x00 ∷ 0x2a ∷ [])
    ⇒ Some (record { body = 3; call = 6; turn = 4; count = 4 } ∷ [])
    -- A call has one turn.
    ∷ frames_at_fault (0xb0 ∷ 0x00 ∷ 0x2c ∷ 0x21 ∷ 0x2d ∷ []) [] ((0, 3) ∷ []) (0xb0 ∷ 0x00 ∷ 0x2b ∷ [])
    ⇒ Some (record { body = 3; call = 2; turn = 1; count = 1 } ∷ [])
    -- A function number is below the limit even where it is listed.
    ∷ frames_at_fault (0xb0 ∷ 0x00 ∷ 0x2c ∷ 0x21 ∷ 0x2d ∷ []) [] ((2, 3) ∷ []) (0xb0 ∷ 0x02 ∷ 0x2b ∷ []) ⇒ Some []
    -- An inner call stands before the outer one.
    ∷ frames_at_fault (0xb0 ∷ 0x00 ∷ 0x2c ∷ 0x21 ∷ 0x2d ∷ []) (0x18 ∷ 0xb1 ∷ 0x00 ∷ 0x01 ∷ 0x2c ∷ 0x2b ∷ 0x2d ∷ [])
    ((1, 2147483653) ∷ (0, 3) ∷ []) (0xb1 ∷ 0x00 ∷ 0x01 ∷ 0x2b ∷ [])
    ⇒ Some (record { body = 3; call = 5; turn = 1; count = 1 } ∷ record { body = 2147483653; call = 3; turn = 1; count = 1 } ∷ [])
    -- A return takes its frame away.
    ∷ frames_at_fault (0xb0 ∷ 0x00 ∷ 0x2c ∷ 0x2d ∷ []) [] ((0, 3) ∷ []) (0xb0 ∷ 0x00 ∷ 0x2b ∷ 0x21 ∷ []) ⇒ Some []
    ∷ [])
unfolding computed
cases_of_frames = refl

-- The functions with which glyph programs start, and the bodies that they name.
cases_of_names_of_functions : all_hold (
    -- A function of the font program is named by its offset.
    functions_left (0xb0 ∷ 0x00 ∷ 0x2c ∷ 0x21 ∷ 0x2d ∷ []) [] ⇒ Some ((0, 3) ∷ [])
    -- A function of the CVT program is named after all offsets.
    ∷ functions_left [] (0xb0 ∷ 0x00 ∷ 0x2c ∷ 0x21 ∷ 0x2d ∷ []) ⇒ Some ((0, 2147483651) ∷ [])
    -- The newest definition comes first.
    ∷ functions_left (0xb0 ∷ 0x00 ∷ 0x2c ∷ 0x2d ∷ 0xb0 ∷ 0x01 ∷ 0x2c ∷ 0x18 ∷ 0x2d ∷ []) (0xb0 ∷ 0x00 ∷ 0x2c ∷ 0x2d ∷ [])
    ⇒ Some ((0, 2147483651) ∷ (1, 7) ∷ (0, 3) ∷ [])
    ∷ [])
unfolding computed
cases_of_names_of_functions = refl

-- The depth is tested after the operands and uses, and before the target of a jump.
cases_of_the_depth : all_hold (
    -- The depth is tested before a jump target.
    faults_by (record usual_limits { stack = 2 }) (0x1c ∷ []) (zones One One One) ((pos 50 ∷ pos 1 ∷ pos 2 ∷ pos 3 ∷ []) ∷ [])
    reason.Overflow
    -- The target of a jump is tested where the depth is in order.
    ∷ faults_by (record usual_limits { stack = 2 }) (0x1c ∷ []) (zones One One One) ((pos 50 ∷ pos 1 ∷ pos 2 ∷ []) ∷ []) reason.Target
    -- The depth is tested before the target of JROT.
    ∷ faults_by (record usual_limits { stack = 2 }) (0x78 ∷ []) (zones One One One)
    ((pos 1 ∷ pos 50 ∷ pos 1 ∷ pos 2 ∷ pos 3 ∷ []) ∷ (pos 0 ∷ pos 50 ∷ pos 1 ∷ pos 2 ∷ pos 3 ∷ []) ∷ []) reason.Overflow
    -- The target of JROT is tested where the depth is in order.
    ∷ faults_by (record usual_limits { stack = 2 }) (0x78 ∷ []) (zones One One One) ((pos 1 ∷ pos 50 ∷ pos 1 ∷ pos 2 ∷ []) ∷ [])
    reason.Target
    -- The depth is tested before the target of JROF.
    ∷ faults_by (record usual_limits { stack = 2 }) (0x79 ∷ []) (zones One One One)
    ((pos 0 ∷ pos 50 ∷ pos 1 ∷ pos 2 ∷ pos 3 ∷ []) ∷ (pos 1 ∷ pos 50 ∷ pos 1 ∷ pos 2 ∷ pos 3 ∷ []) ∷ []) reason.Overflow
    -- The target of JROF is tested where the depth is in order.
    ∷ faults_by (record usual_limits { stack = 2 }) (0x79 ∷ []) (zones One One One) ((pos 0 ∷ pos 50 ∷ pos 1 ∷ pos 2 ∷ []) ∷ [])
    reason.Target
    -- The depth is tested where nothing is pushed.
    ∷ faults_by (record usual_limits { stack = 2 }) (0x18 ∷ 0x59 ∷ 0x58 ∷ []) (zones One One One)
    ((pos 1 ∷ pos 2 ∷ pos 3 ∷ pos 4 ∷ []) ∷ []) reason.Overflow
    -- Operands are tested before the depth.
    ∷ faults_by (record usual_limits { stack = 2 }) (0x2e ∷ 0x29 ∷ []) (zones One One One) ((pos 20 ∷ pos 1 ∷ pos 2 ∷ pos 3 ∷ []) ∷ [])
    reason.Point
    -- Uses are tested before the depth.
    ∷ faults_by (record usual_limits { stack = 2 }) (0xc0 ∷ 0x3a ∷ 0x33 ∷ []) (zones One One One)
    ((pos 1 ∷ pos 1 ∷ pos 1 ∷ pos 2 ∷ pos 3 ∷ []) ∷ []) reason.Point
    -- A function number is tested before the depth.
    ∷ faults_by (record usual_limits { stack = 2 }) (0x2a ∷ 0x2b ∷ []) (zones One One One) ((pos 1 ∷ pos 1 ∷ pos 2 ∷ pos 3 ∷ []) ∷ [])
    reason.Function
    ∷ [])
unfolding computed
cases_of_the_depth = refl
