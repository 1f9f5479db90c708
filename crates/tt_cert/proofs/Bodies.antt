-- Which bodies run in the calls of a context, call by call.
use Rattle.std.proofs.Common.{◌≡◌, ℕ, ◌+◌, ◌-◌, ◌<◌, ◌≤◌, Bool, true, false, List, [], ◌∷◌, length, refl, ap, ◌∙◌, arith}
use Rattle.std.specs.Prelude.{Some, slice_get, slice_index_or, ◌==◌}
use Rattle.std.proofs.lemmas.Option.{slice_get-get_or}
use Rattle.tt_family.specs.Contents.{frames_at}
use Rattle.tt_family.specs.Contexts.{frames_of, grow-at, grow-keeps}
use Rattle.tt_code.specs.declared.machine.Frame.{Frame}
use Rattle.tt_cert.specs.Rules.{HaveParents, is_new_body}
use Rattle.tt_cert.specs.Sections.{Context}

-- the calls of a context are its last one and those of its parent
pub frames_at_context : (contexts : List Context) → HaveParents contexts → (i : ℕ) (c : Context) → slice_get contexts i ≡ Some c
    → frames_at (frames_of contexts) (i + 1) ≡ c.1 ∷ frames_at (frames_of contexts) c.0
frames_at_context contexts parents i c at =
    let before = parents i c at in
    let one : i + 1 ≡ 1 + i = omega arith in
    ap (frames_at (frames_of contexts)) one ∙ grow-at ([] ∷ []) contexts i c at (omega arith)

pub frames_at_main : (contexts : List Context) → frames_at (frames_of contexts) 0 ≡ []
frames_at_main contexts = grow-keeps ([] ∷ []) contexts 0 (omega arith)

-- whether a body is new in the calls of a context and in those of its number's frames
abbrev pub new_in : List Context → ℕ → ℕ → Bool
new_in contexts number body = is_new_body (frames_at (frames_of contexts) number) body

-- the context at an index that is there
pub context_at_index : (contexts : List Context) (d : Context) (at : ℕ) → 0 < at → at ≤ length contexts → slice_get contexts (at - 1) ≡ Some (slice_index_or contexts (at - 1) d)
context_at_index contexts d at some within = slice_get-get_or contexts (at - 1) d (omega arith)

-- the number of a context is one more than its index
pub new_at_number : (contexts : List Context) (at body : ℕ) → 0 < at → new_in contexts at body ≡ new_in contexts (at - 1 + 1) body
new_at_number contexts at body some = let n : at ≡ at - 1 + 1 = omega arith in ap (λ k. new_in contexts k body) n

same_answer : (f : Frame) (fs : List Frame) (body : ℕ) → (f.body == body) ≡ false → is_new_body (f ∷ fs) body ≡ is_new_body fs body
same_answer f fs body e = rw e refl

found_answer : (f : Frame) (fs : List Frame) (body : ℕ) → (f.body == body) ≡ true → is_new_body (f ∷ fs) body ≡ false
found_answer f fs body e = rw e refl

pub new_in_parent : (contexts : List Context) → HaveParents contexts → (i body : ℕ) (c : Context) → slice_get contexts i ≡ Some c → (c.1.body == body) ≡ false
    → new_in contexts (i + 1) body ≡ new_in contexts c.0 body
new_in_parent contexts parents i body c at apart =
    ap (λ fs. is_new_body fs body) (frames_at_context contexts parents i c at) ∙ same_answer c.1 (frames_at (frames_of contexts) c.0) body apart

pub not_new : (contexts : List Context) → HaveParents contexts → (i body : ℕ) (c : Context) → slice_get contexts i ≡ Some c → (c.1.body == body) ≡ true
    → new_in contexts (i + 1) body ≡ false
not_new contexts parents i body c at same =
    ap (λ fs. is_new_body fs body) (frames_at_context contexts parents i c at) ∙ found_answer c.1 (frames_at (frames_of contexts) c.0) body same

pub new_in_main : (contexts : List Context) (body : ℕ) → new_in contexts 0 body ≡ true
new_in_main contexts body = ap (λ fs. is_new_body fs body) (frames_at_main contexts)
