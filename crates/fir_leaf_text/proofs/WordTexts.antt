-- The texts of the leaves of a type as the text writes it: those of its fields one after another, and those of the elements of a vector as copies of those of
-- the first.
use Rattle.std.proofs.Common.{◌≡◌, ◌≢◌, ℕ, zero, suc, ◌+◌, ◌-◌, ◌<◌, ◌≤◌, List, [], ◌∷◌, ◌++◌, Box, Global, false, drop, get_or, length, map, min, take, ⊎_elim, refl, sym, ap, ◌∙◌, append_assoc, append-nil, arith}
use Rattle.std.specs.Prelude.{flat_map, slice_range}
use Rattle.std.proofs.lemmas.Bool.{cases_lt}
use Rattle.std.proofs.lemmas.List.{drop-append-le, drop_all, drop_at, drop_more, length-append, length-drop, map_push, take_at}
use Rattle.std.proofs.lemmas.List.Edits.{between_more}
use Rattle.std.proofs.lemmas.Option.{get_or_from_slice_get}
use Rattle.fir_base.proofs.Elements.{get_left, there}
use Rattle.fir_ast.specs.declared.types.Field.{Field}
use Rattle.fir_ast.specs.declared.types.Ty.{Ty, fold-roll-Ty}
use Rattle.fir_ast.specs.declared.types.Ty.TheOpen.{Ty-F}
use Rattle.fir_ast.specs.declared.types.Ty.TheVariants.{Vector, rolls-Vector}
use Rattle.fir_ast.specs.Types.{DataType, Fields, bundle, vector}
use Rattle.fir_ast.specs.View.{fields_of}
use Rattle.fir_ast.specs.working.BundleText.{field_of}
use Rattle.fir_ast.specs.working.TypeViews.{field_step, type_of, type_step}
use Rattle.fir_ast.proofs.Fields.{field_of-is}
use Rattle.fir_meaning.specs.LeafPaths.{LeafPath, element, named, step_text}
use Rattle.fir_meaning.specs.TypeLeaves.{TypeLeaf, element_leaves, field_leaves, type_leaves, under}
use Rattle.fir_leaf_text.specs.working.TypePaths.{paths_of, texts_behind, type_paths}
use Rattle.fir_leaf_text.specs.working.WordTexts.{AreOfFirst, other_texts}
use Rattle.fir_leaf_text.proofs.TypeTexts.{element_put, elements_from, part_put, texts_joined}

-- a vector as the code has it
pub vector_view : (e : Box Ty Global) (n : ℕ) → type_of (Vector e n) ≡ vector (type_of e.value) n
vector_view e n = ap type_of (sym (rolls-Vector e n)) ∙ fold-roll-Ty DataType (Fields → Fields) type_step field_step (Ty-F.Vector e n)

-- the texts of fields
abbrev pub texts_of_fields : List ℕ → List Field → List (List ℕ)
texts_of_fields path fs = texts_behind path (type_paths (bundle (fields_of (map field_of fs))))

pub next_field : (path mid : List ℕ) (fs : List Field) (i : ℕ) (f : Field) (now new all : List (List ℕ)) → i < length fs → f ≡ get_or fs i f
    → mid ≡ path ++ step_text (named f.name) → now ++ texts_of_fields path (drop i fs) ≡ all → new ≡ now ++ texts_behind mid (type_paths (type_of f.ty))
    → new ++ texts_of_fields path (drop (i + 1) fs) ≡ all
next_field path mid fs i f now new all within at is left put =
    let rest = fields_of (map field_of (drop (i + 1) fs)) in
    let own = type_leaves (type_of f.ty) in
    let split : field_leaves (fields_of (map field_of (drop i fs))) ≡ map (under f.flip (named f.name)) own ++ field_leaves rest =
    ap (λ (l : List Field). field_leaves (fields_of (map field_of l))) (drop_more fs i f within ∙ ap (λ (g : Field). g ∷ drop (i + 1) fs) (sym at))
    ∙ ap field_leaves (field_of-is f rest) in
    part_put path mid f.flip (named f.name) own (field_leaves rest) now new all is
    (ap (λ ls. now ++ texts_behind path (paths_of ls)) (sym split) ∙ left) put

pub fields_done : (path : List ℕ) (fs : List Field) (i : ℕ) (now all : List (List ℕ)) → length fs ≤ i → now ++ texts_of_fields path (drop i fs) ≡ all
    → now ≡ all
fields_done path fs i now all past left =
    sym (append-nil now) ∙ ap (λ (l : List Field). now ++ texts_of_fields path l) (sym (drop_all i fs past)) ∙ left

-- the elements of a vector: those of the first, and then those of the others
pub of_first : (t : DataType) (path mid : List ℕ) (cut start : ℕ) (old first : List (List ℕ)) → mid ≡ path ++ step_text (element 0) → cut ≡ length mid
    → start ≡ length old → first ≡ old ++ texts_behind mid (type_paths t) → AreOfFirst t path cut (drop start first)
of_first t path mid cut start old first is counted begins put = record {
  behind =
      ap (drop start) put ∙ drop_at old (texts_behind mid (type_paths t)) start (sym begins) ∙ ap (λ p. texts_behind p (type_paths t)) is;
  long = counted ∙ ap length is;
}

pub elements_put : (t : DataType) (n : ℕ) (path mid : List ℕ) (old first new : List (List ℕ)) → n ≢ 0 → mid ≡ path ++ step_text (element 0)
    → first ≡ old ++ texts_behind mid (type_paths t) → new ≡ first ++ other_texts t n path → new ≡ old ++ texts_behind path (type_paths (vector t n))
elements_put t n path mid old first new some is put others =
    let ls = type_leaves t in
    let next : suc (n - 1) ≡ n = omega arith in
    others ∙ ap (λ ts. ts ++ other_texts t n path) (put ∙ ap (λ p. old ++ texts_behind p (type_paths t)) is)
    ∙ append_assoc old (texts_behind (path ++ step_text (element 0)) (type_paths t)) (other_texts t n path)
    ∙ ap (λ ts. old ++ ts) (sym (texts_joined path false (element 0) ls (element_leaves 1 (n - 1) ls)))
    ∙ ap (λ k. old ++ texts_behind path (paths_of (element_leaves 0 k ls))) next

-- no texts are those of no leaves
no_leaves_behind : (path : List ℕ) (ls : List TypeLeaf) → texts_behind path (paths_of ls) ≡ [] → ls ≡ []
no_leaves_behind path [] e = refl
no_leaves_behind path (l ∷ ls) e = absurd (cc)

no_elements : (i n : ℕ) → element_leaves i n [] ≡ []
no_elements i zero = refl
no_elements i (suc n) = no_elements (i + 1) n

-- a copy behind another path
copied_behind : (front path : List ℕ) (cut : ℕ) (paths : List LeafPath) → cut ≡ length front
    → map (λ text. path ++ drop cut text) (texts_behind front paths) ≡ texts_behind path paths
copied_behind front path cut [] e = refl
copied_behind front path cut (p ∷ ps) e =
    ap (λ x. (path ++ x) ∷ map (λ text. path ++ drop cut text) (texts_behind front ps)) (drop_at front (flat_map step_text p) cut (sym e))
    ∙ ap (λ ts. (path ++ flat_map step_text p) ∷ ts) (copied_behind front path cut ps e)

module _ (t : DataType) (n : ℕ) (path : List ℕ) (old : List (List ℕ)) where
  -- the texts of the elements behind the first are copied up to one
  pub record AreCopied (i : ℕ) (now : List (List ℕ)) : Type 0 where
    pub more : List (List ℕ)
    pub kept : now ≡ old ++ more
    pub left : now ++ elements_from t n path i ≡ old ++ other_texts t n path

  pub none_copied : AreCopied 1 old
  none_copied = record { more = []; kept = sym (append-nil old); left = refl }

  pub all_copied : (i : ℕ) (now : List (List ℕ)) → n ≤ i → AreCopied i now → now ≡ old ++ other_texts t n path
  all_copied i now past so_far =
      let none : n - i ≡ 0 = omega arith in
      sym (append-nil now) ∙ ap (λ k. now ++ texts_behind path (paths_of (element_leaves i k (type_leaves t)))) (sym none) ∙ so_far.left

  module _ (cut start : ℕ) (first : AreOfFirst t path cut (drop start old)) where
    pub nothing_copied : length old ≤ start → old ≡ old ++ other_texts t n path
    nothing_copied past =
        let none = no_leaves_behind (path ++ step_text (element 0)) (type_leaves t) (sym first.behind ∙ drop_all start old past) in
        sym (append-nil old) ∙ ap (λ ls. old ++ texts_behind path (paths_of ls)) (sym (no_elements 1 (n - 1)))
        ∙ ap (λ ls. old ++ texts_behind path (paths_of (element_leaves 1 (n - 1) ls))) (sym none)

    pub one_copied : (end i : ℕ) (mid : List ℕ) (now new : List (List ℕ)) → start < end → end ≡ length old → i < n → mid ≡ path ++ step_text (element i)
        → AreCopied i now → new ≡ now ++ map (λ text. mid ++ drop cut text) (slice_range now start end) → AreCopied (i + 1) new
    one_copied end i mid now new some ends within is so_far copies =
        let own = texts_behind mid (type_paths t) in
        let long : length (drop start old) ≡ end - start = length-drop start old ∙ ap (λ k. k - start) (sym ends) in
        let range : slice_range now start end ≡ drop start old =
        ap (λ ts. slice_range ts start end) so_far.kept
        ∙ ap (take (end - start)) (drop-append-le start old so_far.more (omega arith))
        ∙ take_at (drop start old) so_far.more (end - start) long in
        let put : new ≡ now ++ own =
        copies ∙ ap (λ ts. now ++ map (λ text. mid ++ drop cut text) ts) (range ∙ first.behind)
        ∙ ap (λ ts. now ++ ts) (copied_behind (path ++ step_text (element 0)) mid cut (type_paths t) first.long) in
        record {
          more = so_far.more ++ own;
          kept = put ∙ ap (λ ts. ts ++ own) so_far.kept ∙ append_assoc old so_far.more own;
          left = element_put t n path mid i now new (old ++ other_texts t n path) within is so_far.left put;
        }

-- text by text
abbrev pub copies_to : List ℕ → ℕ → List (List ℕ) → ℕ → ℕ → List (List ℕ)
copies_to path cut old start i = map (λ text. path ++ drop cut text) (slice_range old start i)

pub no_copies : (path : List ℕ) (cut start : ℕ) (old : List (List ℕ)) → old ≡ old ++ copies_to path cut old start start
no_copies path cut start old =
    let none : start - start ≡ 0 = omega arith in
    sym (append-nil old) ∙ ap (λ k. old ++ map (λ text. path ++ drop cut text) (take k (drop start old))) (sym none)

pub copy_within : (path : List ℕ) (cut start end i : ℕ) (old now : List (List ℕ)) → end ≤ length old → i < end → now ≡ old ++ copies_to path cut old start i
    → i < length now
copy_within path cut start end i old now within less so_far = omega (arith, ap length so_far, length-append old (copies_to path cut old start i))

get_front : (xs ys : List (List ℕ)) (i : ℕ) (d : List ℕ) → i < length xs → get_or (xs ++ ys) i d ≡ get_or xs i d
get_front xs ys i d within =
    let h = there xs i within in
    get_or_from_slice_get (xs ++ ys) i h.0 d (get_left xs ys i within ∙ h.1) ∙ sym (get_or_from_slice_get xs i h.0 d h.1)

pub next_copy : (path mid : List ℕ) (cut start i : ℕ) (old now new : List (List ℕ)) (text : List ℕ) → start ≤ i → i < length old
    → now ≡ old ++ copies_to path cut old start i → text ≡ get_or now i text → mid ≡ path ++ drop cut text → new ≡ now ++ mid ∷ []
    → new ≡ old ++ copies_to path cut old start (i + 1)
next_copy path mid cut start i old now new text ordered within so_far at is put =
    let copy : List ℕ → List ℕ = λ x. path ++ drop cut x in
    let copies = copies_to path cut old start i in
    let own : get_or old i text ≡ text = sym (get_front old copies i text within) ∙ ap (λ ts. get_or ts i text) (sym so_far) ∙ sym at in
    let more : copies_to path cut old start (i + 1) ≡ copies ++ mid ∷ [] =
    ap (map copy) (between_more old start i text ordered within ∙ ap (λ x. slice_range old start i ++ x ∷ []) own)
    ∙ map_push copy (slice_range old start i) text ∙ ap (λ x. copies ++ x ∷ []) (sym is) in
    put ∙ ap (λ ts. ts ++ mid ∷ []) so_far ∙ append_assoc old copies (mid ∷ []) ∙ ap (λ ts. old ++ ts) (sym more)

-- the bytes behind so many, or none
pub rest_behind : (text : List ℕ) (cut from : ℕ) → from ≡ min cut (length text) → drop from text ≡ drop cut text
rest_behind text cut from e =
    ⊎_elim
    (λ (short : length text < cut). drop_all from text (omega arith) ∙ sym (drop_all cut text (omega arith)))
    (λ (long : cut ≤ length text). let same : from ≡ cut = omega arith in ap (λ n. drop n text) same)
    (cases_lt (length text) cut)
