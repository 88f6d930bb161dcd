-- What is put for each of a list, one behind another.
use Rattle.std.proofs.Common.{◌≡◌, ℕ, ◌+◌, ◌<◌, List, [], ◌∷◌, ◌++◌, flat_map, map, take, get_or, length, sym, ap, ◌∙◌, append_assoc}
use Rattle.std.proofs.lemmas.List.{append-nil, take_more}
use Rattle.std.proofs.lemmas.List.Concat.{flat_map-append}
use Rattle.std.proofs.lemmas.List.Folds.{flat_map-map}

pub put_more : {A : Type 0} (f : A → List ℕ) (xs : List A) (i : ℕ) (x d : A) (start before after : List ℕ) → i < length xs → x ≡ get_or xs i d
    → before ≡ start ++ flat_map f (take i xs) → after ≡ before ++ f x → after ≡ start ++ flat_map f (take (i + 1) xs)
put_more f xs i x d start before after within is b a =
    let so_far = flat_map f (take i xs) in
    let more : flat_map f (take (i + 1) xs) ≡ so_far ++ f x =
    ap (flat_map f) (take_more xs i d within ∙ ap (λ y. take i xs ++ y ∷ []) (sym is)) ∙ flat_map-append f (take i xs) (x ∷ [])
    ∙ ap (λ l. so_far ++ l) (append-nil (f x)) in
    a ∙ ap (λ l. l ++ f x) b ∙ append_assoc start so_far (f x) ∙ ap (λ l. start ++ l) (sym more)

-- with the same text before each
pub put_behind : {A : Type 0} (mark : List ℕ) (f : A → List ℕ) (xs : List A) (i : ℕ) (x d : A) (start before between after : List ℕ) → i < length xs
    → x ≡ get_or xs i d → before ≡ start ++ flat_map (λ y. mark ++ f y) (take i xs) → between ≡ before ++ mark → after ≡ between ++ f x
    → after ≡ start ++ flat_map (λ y. mark ++ f y) (take (i + 1) xs)
put_behind mark f xs i x d start before between after within is b m a =
    put_more (λ y. mark ++ f y) xs i x d start before after within is b (a ∙ ap (λ l. l ++ f x) m ∙ append_assoc before mark (f x))

pub put_mapped : {A : Type 0} (mark : List ℕ) (f : A → List ℕ) (xs : List A) (i : ℕ) (x d : A) (start before between after : List ℕ) → i < length xs
    → x ≡ get_or xs i d → before ≡ start ++ flat_map (λ t. mark ++ t) (map f (take i xs)) → between ≡ before ++ mark → after ≡ between ++ f x
    → after ≡ start ++ flat_map (λ t. mark ++ t) (map f (take (i + 1) xs))
put_mapped mark f xs i x d start before between after within is b m a =
    put_behind mark f xs i x d start before between after within is (b ∙ ap (λ l. start ++ l) (flat_map-map (λ t. mark ++ t) f (take i xs))) m a
    ∙ ap (λ l. start ++ l) (sym (flat_map-map (λ t. mark ++ t) f (take (i + 1) xs)))
