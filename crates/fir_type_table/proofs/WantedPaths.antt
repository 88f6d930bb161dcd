-- The first wanted leaf under a step, in joined lists, and in the elements of a vector; and its path as it is written.
use Rattle.std.proofs.Common.{◌≡◌, ℕ, zero, suc, ◌+◌, List, [], ◌∷◌, ◌++◌, Bool, true, false, cond, map, take, length, refl, sym, ap, ◌∙◌, subst, append_assoc}
use Rattle.std.specs.Prelude.{Option, Some, None, option_map, flat_map}
use Rattle.std.specs.Option.{option_or}
use Rattle.std.proofs.Math.Seq.{take-append_seam}
use Rattle.fir_meaning.specs.LeafPaths.{Step, LeafPath, element, step_text}
use Rattle.fir_meaning.specs.TypeLeaves.{TypeLeaf, turned, under, element_leaves}
use Rattle.fir_type_table.specs.working.Wanted.{is_wanted, first_wanted, IsPathFound, path_kept}

abbrev pub behind : Step → Option LeafPath → Option LeafPath
behind s o = option_map (λ path. s ∷ path) o

pub wanted_joined : (straight flipped : Bool) (xs ys : List TypeLeaf)
    → first_wanted straight flipped (xs ++ ys) ≡ option_or (first_wanted straight flipped xs) (first_wanted straight flipped ys)
wanted_joined straight flipped [] ys = refl
wanted_joined straight flipped (x ∷ xs) ys =
    joined (is_wanted straight flipped x) x.path (first_wanted straight flipped (xs ++ ys)) (first_wanted straight flipped xs)
    (first_wanted straight flipped ys) (wanted_joined straight flipped xs ys) where
      joined : (b : Bool) (p : LeafPath) (both left right : Option LeafPath) → both ≡ option_or left right → cond b (Some p) both ≡ option_or (cond b (Some p) left) right
      joined true p both left right h = refl
      joined false p both left right h = h

under_step : (b c : Bool) (s : Step) (p : LeafPath) (o q : Option LeafPath) → b ≡ c → o ≡ behind s q → cond b (Some (s ∷ p)) o ≡ behind s (cond c (Some p) q)
under_step b true s p o q e h = ap (λ t. cond t (Some (s ∷ p)) o) e
under_step b false s p o q e h = ap (λ t. cond t (Some (s ∷ p)) o) e ∙ h

turned_straight : (straight flipped flip : Bool) → cond (turned false flip) flipped straight ≡ cond flip flipped straight
turned_straight straight flipped flip = refl

turned_flipped : (straight flipped flip : Bool) → cond (turned true flip) flipped straight ≡ cond flip straight flipped
turned_flipped straight flipped true = refl
turned_flipped straight flipped false = refl

-- below a flipped field straight is flipped
pub wanted_straight : (straight flipped : Bool) (s : Step) (ls : List TypeLeaf)
    → first_wanted straight flipped (map (under false s) ls) ≡ behind s (first_wanted straight flipped ls)
wanted_straight straight flipped s [] = refl
wanted_straight straight flipped s (l ∷ ls) =
    under_step (cond (turned false l.flip) flipped straight) (cond l.flip flipped straight) s l.path (first_wanted straight flipped (map (under false s) ls))
    (first_wanted straight flipped ls) (turned_straight straight flipped l.flip) (wanted_straight straight flipped s ls)

pub wanted_flipped : (straight flipped : Bool) (s : Step) (ls : List TypeLeaf)
    → first_wanted straight flipped (map (under true s) ls) ≡ behind s (first_wanted flipped straight ls)
wanted_flipped straight flipped s [] = refl
wanted_flipped straight flipped s (l ∷ ls) =
    under_step (cond (turned true l.flip) flipped straight) (cond l.flip straight flipped) s l.path (first_wanted straight flipped (map (under true s) ls))
    (first_wanted flipped straight ls) (turned_flipped straight flipped l.flip) (wanted_flipped straight flipped s ls)

none_in_elements : (straight flipped : Bool) (i n : ℕ) (ls : List TypeLeaf) → first_wanted straight flipped ls ≡ None
    → first_wanted straight flipped (element_leaves i n ls) ≡ None
none_in_elements straight flipped i zero ls none = refl
none_in_elements straight flipped i (suc n) ls none =
    wanted_joined straight flipped (map (under false (element i)) ls) (element_leaves (i + 1) n ls)
    ∙ ap (λ o. option_or o (first_wanted straight flipped (element_leaves (i + 1) n ls)))
    (wanted_straight straight flipped (element i) ls ∙ ap (behind (element i)) none)
    ∙ none_in_elements straight flipped (i + 1) n ls none

first_or : (straight flipped : Bool) (i n : ℕ) (ls : List TypeLeaf) (o : Option LeafPath) → first_wanted straight flipped ls ≡ o
    → option_or (behind (element i) o) (first_wanted straight flipped (element_leaves (i + 1) n ls)) ≡ behind (element i) o
first_or straight flipped i n ls None e = none_in_elements straight flipped (i + 1) n ls e
first_or straight flipped i n ls (Some p) e = refl

-- all elements have the same leaves, so the first wanted one is in the first element
pub wanted_in_first : (straight flipped : Bool) (n : ℕ) (ls : List TypeLeaf) → (n ≡ 0 → ⊥)
    → first_wanted straight flipped (element_leaves 0 n ls) ≡ behind (element 0) (first_wanted straight flipped ls)
wanted_in_first straight flipped zero ls some = absurd (some refl)
wanted_in_first straight flipped (suc n) ls some =
    wanted_joined straight flipped (map (under false (element 0)) ls) (element_leaves 1 n ls)
    ∙ ap (λ o. option_or o (first_wanted straight flipped (element_leaves 1 n ls))) (wanted_straight straight flipped (element 0) ls)
    ∙ first_or straight flipped 0 n ls (first_wanted straight flipped ls) refl

-- a path behind its first step, or nothing written
pub path_behind : (old mid new : List ℕ) (found : Bool) (s : Step) (o : Option LeafPath) → mid ≡ old ++ step_text s → IsPathFound mid new found o
    → IsPathFound old (path_kept found (length old) new) found (behind s o)
path_behind old mid new found s None e h =
    (h.0, ap (λ b. path_kept b (length old) new) h.0 ∙ ap (take (length old)) (h.1 ∙ e) ∙ take-append_seam old (step_text s))
path_behind old mid new found s (Some p) e h =
    (h.0, ap (λ b. path_kept b (length old) new) h.0 ∙ h.1 ∙ ap (λ l. l ++ flat_map step_text p) e ∙ append_assoc old (step_text s) (flat_map step_text p))

pub kept_behind : (old mid new last : List ℕ) (before : ℕ) (found result : Bool) (s : Step) (o w : Option LeafPath) → before ≡ length old
    → mid ≡ old ++ step_text s → IsPathFound mid new found o → result ≡ found → last ≡ path_kept found before new → w ≡ behind s o
    → IsPathFound old last result w
kept_behind old mid new last before found result s o w counted e h same at joined =
    let kept : last ≡ path_kept found (length old) new = at ∙ ap (λ n. path_kept found n new) counted in
    subst (λ q. IsPathFound old last result q) (sym joined)
    (subst (λ b. IsPathFound old last b (behind s o)) (sym same)
    (subst (λ (l : List ℕ). IsPathFound old l found (behind s o)) (sym kept) (path_behind old mid new found s o e h)))

-- a leaf that is found in the first of two parts, and one that is not
pub found_here : (old start new : List ℕ) (found : Bool) (o q w : Option LeafPath) → start ≡ old → found ≡ true → w ≡ option_or o q
    → IsPathFound start new found o → IsPathFound old new true w
found_here old start new found None q w e there joined h = absurd (let no : found ≡ false = h.0 in let apart : true ≡ false = sym there ∙ no in cc)
found_here old start new found (Some p) q w e there joined h =
    let is : IsPathFound old new true (Some p) = (refl, h.1 ∙ ap (λ l. l ++ flat_map step_text p) e) in
    subst (λ r. IsPathFound old new true r) (sym joined) is

pub passed_over : (old start new : List ℕ) (found : Bool) (o q w : Option LeafPath) → start ≡ old → found ≡ false → w ≡ option_or o q
    → IsPathFound start new found o → (new ≡ old) × (w ≡ q)
passed_over old start new found None q w e none joined h = (h.1 ∙ e, joined)
passed_over old start new found (Some p) q w e none joined h = absurd (let yes : found ≡ true = h.0 in let apart : true ≡ false = sym yes ∙ none in cc)

-- a path written from nothing on is told, and none is
pub path_told : (old new : List ℕ) (found : Bool) (o w : Option LeafPath) → old ≡ [] → found ≡ true → w ≡ o → IsPathFound old new found o
    → Some new ≡ option_map (flat_map step_text) w
path_told old new found None w e there same h = absurd (let no : found ≡ false = h.0 in let apart : true ≡ false = sym there ∙ no in cc)
path_told old new found (Some p) w e there same h =
    ap Some (h.1 ∙ ap (λ l. l ++ flat_map step_text p) e) ∙ ap (option_map (flat_map step_text)) (sym same)

pub none_told : (old new : List ℕ) (found : Bool) (o w : Option LeafPath) → found ≡ false → w ≡ o → IsPathFound old new found o
    → None ≡ option_map (flat_map step_text) w
none_told old new found None w none same h = ap (option_map (flat_map step_text)) (sym same)
none_told old new found (Some p) w none same h = absurd (let yes : found ≡ true = h.0 in let apart : true ≡ false = sym yes ∙ none in cc)
