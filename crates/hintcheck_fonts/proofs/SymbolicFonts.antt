-- A font whose programs were checked is safe.
use Rattle.std.proofs.Common.{◌≡◌, ◌⊎◌, ℕ, ℤ, List, [], Some, refl, sym, ◌∙◌, subst, inl, inr}
use Rattle.tt_setting.specs.Functions.{CoversFunctions}
use Rattle.tt_code.specs.Control.{body_named}
use Rattle.tt_code.specs.Fonts.{Font, cvt_setting, font_setting}
use Rattle.tt_code.specs.Runs.{IsFresh}
use Rattle.tt_code.specs.Settings.{Setting}
use Rattle.tt_code.specs.States.{IsNumber}
use Rattle.tt_symbolic_state.specs.CvtMachine.{CvtMachine}
use Rattle.tt_symbolic_check.specs.Starts.{StartsFrom}
use Rattle.hintcheck_fonts.specs.CvtStarts.{GlyphPrograms, IsMixed, LeavesFunctions, MayHold, Memory, StartsCvtProgram, StartsFontProgram, StartsWithFunctions, left, memory_of, written}
use Rattle.hintcheck_fonts.specs.SymbolicEnds.{AreEndsKnowing, KeepsThem, StartGlyphs, StartsKnowing}
use Rattle.hintcheck_fonts.specs.SymbolicLaws.{CheckedFontsAreSafe, IsChecked}
use Rattle.hintcheck_fonts.specs.declared.ends.Ends.{Ends}
use Rattle.hintcheck_fonts.specs.declared.glyph_starts.GlyphStarts.{GlyphStarts}

-- the functions that are known at the ends are defined wherever a run leaves functions
functions_left : (s : Setting) (functions : List (ℕ × ℕ)) (ends : Ends) (Starts : CvtMachine → Type 0) → ((m : CvtMachine) → Starts m → StartsKnowing functions m) → AreEndsKnowing s functions ends
    → (fs : List (ℕ × ℕ)) → LeavesFunctions s Starts fs → CoversFunctions ends.functions fs
functions_left s functions ends Starts knows h fs l n body e =
    let one = h.shown l.leaves.first l.last (knows l.leaves.first l.leaves.starts) l.leaves.runs l.leaves.ends in
    subst (λ (g : List (ℕ × ℕ)). body_named g n ≡ Some body) l.left (one.shown.shows.functions n body (h.known.known one.index one.state one.found n body e))

font_knows : (m : CvtMachine) → StartsFontProgram m → StartsKnowing [] m
font_knows m h = record { fresh = h.fresh; controls = h.controls; known = λ n body e. absurd (cc) }

cvt_knows : (f : Font) (first : Ends) → AreEndsKnowing (font_setting f) [] first → (m : CvtMachine) → StartsCvtProgram f m → StartsKnowing first.functions m
cvt_knows f first ends m h = record {
  fresh = h.fresh;
  controls = h.controls;
  known = functions_left (font_setting f) [] first StartsFontProgram font_knows ends m.machine.functions h.left;
}

-- an entry that is one of two equal ones
mixed_is : (x y z : ℤ) → y ≡ x → (z ≡ x) ⊎ (z ≡ y) → z ≡ x
mixed_is x y z e (inl h) = h
mixed_is x y z e (inr h) = h ∙ e

-- the start that shows a machine shows each one with a memory that may follow, and with functions
-- that are known
still_shown : (s : Setting) (g : GlyphStarts) (second : Ends) (m k n : CvtMachine) (new : Memory) → StartGlyphs second g → StartsFrom g.starts.items m → KeepsThem g m k → IsMixed (memory_of m) (memory_of k) new
    → IsFresh n.machine → ((i : ℕ) → n.machine.registers.storage i ≡ new.storage i) → ((i : ℕ) → n.controls i ≡ new.controls i) → CoversFunctions second.functions n.machine.functions → StartsFrom g.starts.items n
still_shown s g second m k n new starts from keeps mixed fresh storage controls known =
    let within = starts.within from.index from.start from.found in
    let one = from.is_one in
    record {
      index = from.index;
      start = from.start;
      found = from.found;
      is_one = record {
        fresh = fresh;
        valuation = one.valuation;
        fits = one.fits;
        storage = record {
          listed_is = λ i c at. storage i ∙ mixed_is _ _ _ (keeps.storage i (within.storage_is.among i c at)) (mixed.storage i) ∙ one.storage.listed_is i c at;
          are_numbers = λ i. subst IsNumber (sym (storage i)) (mixed.stored i);
        };
        controls_are = record {
          listed_is = λ i c at. controls i ∙ mixed_is _ _ _ (keeps.controls i (within.controls_are.among i c at)) (mixed.controls i) ∙ one.controls_are.listed_is i c at;
          are_numbers = λ i. subst IsNumber (sym (controls i)) (mixed.controlled i);
        };
        functions = λ number body e. known number body (within.functions_are number body e);
      };
    }

-- one of the starts shows each machine with which a glyph program may start
starts_shown : (f : Font) (programs : GlyphPrograms) (first second : Ends) (g : GlyphStarts) → IsChecked f programs first second g → (memory : Memory) → MayHold f programs memory → (n : CvtMachine) → StartsWithFunctions f n
    → ((i : ℕ) → n.machine.registers.storage i ≡ memory.storage i) → ((i : ℕ) → n.controls i ≡ memory.controls i) → StartsFrom g.starts.items n
starts_shown f programs first second g h memory (left last leaves) n begins storage controls =
    let one = h.cvt_ends.shown leaves.first last (cvt_knows f first h.font_ends leaves.first leaves.starts) leaves.runs leaves.ends in
    (h.glyph_starts.followed one.index one.state one.found).followed last n one.shown (record {
      fresh = begins.fresh;
      storage = storage;
      controls = controls;
      known = functions_left (cvt_setting f) first.functions second (StartsCvtProgram f) (cvt_knows f first h.font_ends) h.cvt_ends n.machine.functions begins.left;
    })
starts_shown f programs first second g h memory (written glyph s m k new may begun held runs mixed) n begins storage controls =
    let from = starts_shown f programs first second g h (memory_of m) held m begun (λ i. refl) (λ i. refl) in
    still_shown s g second m k n new h.glyph_starts from ((h.glyphs glyph s may).keeps m k from runs) mixed begins.fresh storage controls
    (functions_left (cvt_setting f) first.functions second (StartsCvtProgram f) (cvt_knows f first h.font_ends) h.cvt_ends n.machine.functions begins.left)

pub safe : CheckedFontsAreSafe
safe f programs first second g h = record {
  font_program = λ m n r starts. h.font_safe m n r (font_knows m starts);
  cvt_program = λ m n r starts. h.cvt_safe m n r (cvt_knows f first h.font_ends m starts);
  glyph_programs = λ glyph s may m n r starts. (h.glyphs glyph s may).safe m n r (starts_shown f programs first second g h (memory_of m) starts.memory m starts.functions (λ i. refl) (λ i. refl));
}
