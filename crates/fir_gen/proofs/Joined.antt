-- Pieces that were put one behind the other.
use Rattle.std.proofs.Common.{◌≡◌, ◌∙◌, List, ◌++◌, append_assoc, ap}

pub three_put : {A : Type 0} (old a b c one two three : List A) → one ≡ old ++ a → two ≡ one ++ b → three ≡ two ++ c → three ≡ old ++ (a ++ (b ++ c))
three_put old a b c one two three p q r = r ∙ ap (λ x. x ++ c) (q ∙ ap (λ x. x ++ b) p) ∙ simp append_assoc

-- words and a name, and three pieces
pub declared : {A : Type 0} (old a n b c d one two three four : List A) → one ≡ old ++ a ++ n → two ≡ one ++ b → three ≡ two ++ c → four ≡ three ++ d
    → four ≡ old ++ (a ++ n ++ b ++ c ++ d)
declared old a n b c d one two three four p q r s =
    s ∙ ap (λ x. x ++ d) (r ∙ ap (λ x. x ++ c) (q ∙ ap (λ x. x ++ b) p)) ∙ simp append_assoc

-- three times words and a name, and a last piece
pub named : {A : Type 0} (old a n b m c k d one two three four : List A) → one ≡ old ++ a ++ n → two ≡ one ++ b ++ m → three ≡ two ++ c ++ k → four ≡ three ++ d
    → four ≡ old ++ (a ++ n ++ b ++ m ++ c ++ k ++ d)
named old a n b m c k d one two three four p q r s =
    s ∙ ap (λ x. x ++ d) (r ∙ ap (λ x. x ++ c ++ k) (q ∙ ap (λ x. x ++ b ++ m) p)) ∙ simp append_assoc

-- a declaration, and the two connects of a `when`, each behind its line
pub driven : {A : Type 0} (old r w s n b m c d e f g one two three four five : List A) → one ≡ old ++ r → two ≡ one ++ w
    → three ≡ two ++ (s ++ n ++ b ++ m ++ c ++ n ++ d) → four ≡ three ++ e → five ≡ four ++ (s ++ n ++ f ++ n ++ c ++ m ++ g)
    → five ≡ old ++ (r ++ (w ++ s) ++ n ++ b ++ m ++ c ++ n ++ (d ++ (e ++ s)) ++ n ++ f ++ n ++ c ++ m ++ g)
driven old r w s n b m c d e f g one two three four five p q t u v =
    v ∙ ap (λ x. x ++ (s ++ n ++ f ++ n ++ c ++ m ++ g)) (u ∙ ap (λ x. x ++ e) (t ∙ ap (λ x. x ++ (s ++ n ++ b ++ m ++ c ++ n ++ d)) (q ∙ ap (λ x. x ++ w) p)))
    ∙ simp append_assoc
