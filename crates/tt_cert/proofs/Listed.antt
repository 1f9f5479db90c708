-- The contexts of a family as a section lists them.
use Rattle.std.proofs.Common.{◌≡◌, ℕ, suc, ◌+◌, ◌-◌, ◌<◌, List, [], ◌∷◌, ◌++◌, length, take, drop, Some, Ok, Err, refl, sym, ap, subst, ◌∙◌, arith, length-drop}
use Rattle.std.specs.Prelude.{option_map, slice_get, slice_index_or}
use Rattle.std.proofs.lemmas.List.{length-map, take_more}
use Rattle.std.proofs.lemmas.Option.{slice_get-get_or, slice_get-map, slice_get_within}
use Rattle.tt_code.specs.declared.machine.Frame.{Frame}
use Rattle.tt_family.specs.Contents.{Contents, IsFamily, frames_at}
use Rattle.tt_family.specs.Contexts.{frames_of, length-grow}
use Rattle.tt_family.specs.Puts.{number_at}
use Rattle.tt_setting.specs.declared.cert_fault.CertFault.{CertFault}
use Rattle.tt_setting.specs.declared.cert_fault.CertFault.TheVariants as fault
use Rattle.tt_cert.specs.declared.form.Form.{Form}
use Rattle.tt_setting.specs.declared.name.Name.{Name}
use Rattle.tt_cert.specs.Answers.{Fails}
use Rattle.tt_cert.specs.Readers.{Input}
use Rattle.tt_cert.specs.Reading.{contexts_at, name_at, section_at, states_at}
use Rattle.tt_cert.specs.Rules.{AreContexts}
use Rattle.tt_cert.specs.Sections.{Context, Entry, context_of, contexts_in}
use Rattle.tt_cert.proofs.Bodies.{frames_at_context}
use Rattle.tt_cert.proofs.ContextLists.{HaveParents-from}

get_behind : {A : Type 0} (xs : List A) (i : ℕ) → slice_get (drop 1 xs) i ≡ slice_get xs (i + 1)
get_behind [] i = refl
get_behind (x ∷ xs) i = let n : i + 1 ≡ suc i = omega arith in ap (slice_get (x ∷ xs)) (sym n)

-- a context is in the list under its number
pub context_listed : (v : Contents) (i : ℕ) (c : Context) → IsFamily v → i + 1 < length v.contexts → frames_at v.contexts (i + 1) ≡ c.1 ∷ frames_at v.contexts c.0
    → c.0 < length v.contexts → slice_get (contexts_in v.contexts) i ≡ Some c
context_listed v i c family lt frames parent =
    let at : slice_get v.contexts (i + 1) ≡ Some (frames_at v.contexts (i + 1)) = slice_get-get_or v.contexts (i + 1) [] lt in
    let is : context_of v.contexts (frames_at v.contexts (i + 1)) ≡ c =
    ap (context_of v.contexts) frames ∙ ap (λ (n : ℕ). (n, c.1)) (number_at v c.0 family parent) in
    slice_get-map (context_of v.contexts) (drop 1 v.contexts) i ∙ ap (option_map (context_of v.contexts)) (get_behind v.contexts i ∙ at) ∙ ap Some is

pub length_listed : (v : Contents) → length (contexts_in v.contexts) ≡ length v.contexts - 1
length_listed v = length-map (drop 1 v.contexts) (context_of v.contexts) ∙ length-drop 1 v.contexts

same_by_get : {A : Type 0} (xs ys : List A) → length xs ≡ length ys → ((i : ℕ) (y : A) → slice_get ys i ≡ Some y → slice_get xs i ≡ Some y) → xs ≡ ys
same_by_get [] [] len get = refl
same_by_get [] (y ∷ ys) len get = absurd (omega (arith, len))
same_by_get (x ∷ xs) [] len get = absurd (omega (arith, len))
same_by_get {A} (x ∷ xs) (y ∷ ys) len get =
    let first : Some x ≡ Some y = get 0 y refl in
    let head : x ≡ y = cc in
    let tail : xs ≡ ys = same_by_get xs ys (omega (arith, len)) (λ i z at. get (suc i) z at) in
    cc

-- the contexts from which a family was made
pub listed_back : (contexts : List Context) (v : Contents) → v.contexts ≡ frames_of contexts → IsFamily v → AreContexts contexts → contexts_in v.contexts ≡ contexts
listed_back contexts v is family rules =
    let grown = length-grow ([] ∷ []) contexts in
    let long : length v.contexts ≡ 1 + length contexts = ap length is ∙ grown in
    same_by_get (contexts_in v.contexts) contexts (omega (arith, length_listed v))
    (λ i c at.
    let within = slice_get_within contexts i c at in
    let parent = HaveParents-from contexts rules i c at in
    let F : List (List Frame) → Type 0 = λ x. frames_at x (i + 1) ≡ c.1 ∷ frames_at x c.0 in
    context_listed v i c family (omega arith) (subst F (sym is) (frames_at_context contexts (HaveParents-from contexts rules) i c at)) (omega arith))

-- one more context of the list
pub listed_more : (v : Contents) (i : ℕ) (c : Context) → slice_get (contexts_in v.contexts) i ≡ Some c → take (i + 1) (contexts_in v.contexts) ≡ take i (contexts_in v.contexts) ++ c ∷ []
listed_more v i c at =
    let within = slice_get_within (contexts_in v.contexts) i c at in
    let one : Some (slice_index_or (contexts_in v.contexts) i c) ≡ Some c = sym (slice_get-get_or (contexts_in v.contexts) i c within) ∙ at in
    let same : slice_index_or (contexts_in v.contexts) i c ≡ c = cc in
    take_more (contexts_in v.contexts) i c within ∙ ap (λ (x : Context). take i (contexts_in v.contexts) ++ x ∷ []) same

-- a section is read step by step
pub section_steps : (form : Form) (i : Input) (name : Name) (i1 : Input) (contexts : List Context) (i2 : Input) (m : ℕ) (states : List Entry) (i3 : Input)
    → name_at i ≡ Ok (name, i1) → contexts_at form i1 ≡ Ok (contexts, i2) → m ≡ length contexts + 1 → states_at form m i2 ≡ Ok (states, i3)
    → section_at form i ≡ Ok (record { name = name; contexts = contexts; states = states }, i3)
unfolding section_at
section_steps form i name i1 contexts i2 m states i3 e1 e2 e3 e4 = rw (e1, e2, ← e3, e4) refl

states_refused : (form : Form) (i : Input) (name : Name) (i1 : Input) (contexts : List Context) (i2 : Input) (m place : ℕ)
    → name_at i ≡ Ok (name, i1) → contexts_at form i1 ≡ Ok (contexts, i2) → m ≡ length contexts + 1 → states_at form m i2 ≡ Err place → section_at form i ≡ Err place
unfolding section_at
states_refused form i name i1 contexts i2 m place e1 e2 e3 e4 = rw (e1, e2, ← e3, e4) refl

pub section_fails : (form : Form) (i : Input) (name : Name) (i1 : Input) (contexts : List Context) (i2 : Input) (m : ℕ) (e : CertFault)
    → name_at i ≡ Ok (name, i1) → contexts_at form i1 ≡ Ok (contexts, i2) → m ≡ length contexts + 1 → Fails e (states_at form m i2) → Fails e (section_at form i)
section_fails form i name i1 contexts i2 m (fault.Form place) e1 e2 e3 h = states_refused form i name i1 contexts i2 m place e1 e2 e3 h
section_fails form i name i1 contexts i2 m fault.Read e1 e2 e3 h = tt
section_fails form i name i1 contexts i2 m fault.Write e1 e2 e3 h = h
section_fails form i name i1 contexts i2 m (fault.OutOfMemory error) e1 e2 e3 h = tt

-- how many contexts a builder of these has
pub length_built : (contexts : List Context) (built : List (List Frame)) → built ≡ frames_of contexts → length built ≡ length contexts + 1
length_built contexts built is =
    let grown = length-grow ([] ∷ []) contexts in
    let len = ap length is in
    omega arith
