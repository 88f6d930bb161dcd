-- What the loops over a design's modules have put of their arrays so far.
use Rattle.std.proofs.Common.{◌≡◌, ℕ, suc, ◌+◌, ◌<◌, List, [], ◌∷◌, ◌++◌, length, get_or, take, sym, ap, ◌∙◌, arith, append_assoc, append-nil}
use Rattle.std.specs.Prelude.{flat_map}
use Rattle.std.specs.List.{range_with_len}
use Rattle.std.proofs.lemmas.List.{take_more}
use Rattle.std.proofs.lemmas.List.Concat.{flat_map-append}
use Rattle.fir_elaborate.specs.declared.elaborated.ModuleCopy.{ModuleCopy}
use Rattle.fir_flatten.specs.declared.design_arrays.DesignArray.{DesignArray}
use Rattle.fir_flatten.specs.declared.design_net.ModulePart.{ModulePart}
use Rattle.fir_flatten.specs.declared.offsets.Offsets.{Offsets}
use Rattle.fir_flatten.specs.working.DesignArrays.{array_behind, arrays_of_part, listed}
use Rattle.fir_flatten.specs.working.PutModules.{part_of}
use Rattle.fir_flatten.proofs.PutLeaves.{range_more}

-- those of a module before a number
abbrev pub arrays_before : List ℕ → Offsets → ModulePart → ℕ → List DesignArray
arrays_before prefix at p n = flat_map (λ x. listed (array_behind prefix at p x)) (range_with_len 0 n)

-- one array more
arrays_more : (prefix : List ℕ) (at : Offsets) (p : ModulePart) (x : ℕ)
    → arrays_before prefix at p (x + 1) ≡ arrays_before prefix at p x ++ listed (array_behind prefix at p x)
arrays_more prefix at p x =
    let one : x + 1 ≡ suc x = omega arith in
    let last : 0 + x ≡ x = omega arith in
    let f : ℕ → List DesignArray = λ y. listed (array_behind prefix at p y) in
    ap (λ n. flat_map f (range_with_len 0 n)) one ∙ ap (flat_map f) (range_more 0 x) ∙ flat_map-append f (range_with_len 0 x) ((0 + x) ∷ [])
    ∙ ap (λ (xs : List DesignArray). flat_map f (range_with_len 0 x) ++ xs) (append-nil (f (0 + x)) ∙ ap f last)

pub arrays_step : (prefix : List ℕ) (at : Offsets) (p : ModulePart) (x : ℕ) (start now next : List DesignArray)
    → now ≡ start ++ arrays_before prefix at p x → next ≡ now ++ listed (array_behind prefix at p x) → next ≡ start ++ arrays_before prefix at p (x + 1)
arrays_step prefix at p x start now next e f =
    f ∙ ap (λ (xs : List DesignArray). xs ++ listed (array_behind prefix at p x)) e
    ∙ append_assoc start (arrays_before prefix at p x) (listed (array_behind prefix at p x))
    ∙ ap (λ (xs : List DesignArray). start ++ xs) (sym (arrays_more prefix at p x))

-- one copy more
pub copy_step : (parts : List ModulePart) (copies : List ModuleCopy) (x : ℕ) (k : ModuleCopy) (start now next : List DesignArray) → x < length copies
    → k ≡ get_or copies x k → now ≡ start ++ flat_map (λ j. arrays_of_part j (part_of parts j)) (take x copies)
    → next ≡ now ++ arrays_of_part k (part_of parts k) → next ≡ start ++ flat_map (λ j. arrays_of_part j (part_of parts j)) (take (x + 1) copies)
copy_step parts copies x k start now next lt is e f =
    let F : ModuleCopy → List DesignArray = λ j. arrays_of_part j (part_of parts j) in
    let more : take (x + 1) copies ≡ take x copies ++ k ∷ [] = take_more copies x k lt ∙ ap (λ j. take x copies ++ j ∷ []) (sym is) in
    f ∙ ap (λ (xs : List DesignArray). xs ++ F k) e ∙ append_assoc start (flat_map F (take x copies)) (F k)
    ∙ ap (λ (xs : List DesignArray). start ++ xs)
    (ap (λ (xs : List DesignArray). flat_map F (take x copies) ++ xs) (sym (append-nil (F k))) ∙ sym (flat_map-append F (take x copies) (k ∷ []))
    ∙ ap (flat_map F) (sym more))
