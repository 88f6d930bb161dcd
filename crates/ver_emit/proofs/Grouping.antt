-- Lists joined from the left, read from the right.
use Rattle.std.proofs.Common.{◌∙◌, ◌≡◌, List, ◌++◌, append_assoc}

-- three lists before a rest
pub three_joined : {A : Type 0} (a b c r : List A) → (a ++ b ++ c) ++ r ≡ a ++ (b ++ (c ++ r))
three_joined a b c r = simp append_assoc

-- four
pub four_joined : {A : Type 0} (a b c d r : List A) → (a ++ b ++ c ++ d) ++ r ≡ a ++ (b ++ (c ++ (d ++ r)))
four_joined a b c d r = simp append_assoc

-- six
pub six_joined : {A : Type 0} (a b c d e f r : List A) → (a ++ b ++ c ++ d ++ e ++ f) ++ r ≡ a ++ (b ++ (c ++ (d ++ (e ++ (f ++ r)))))
six_joined a b c d e f r = simp append_assoc

-- thirteen
pub thirteen_joined : {A : Type 0} (a b c d e f g h i j k l m r : List A) → (a ++ b ++ c ++ d ++ e ++ f ++ g ++ h ++ i ++ j ++ k ++ l ++ m) ++ r
    ≡ a ++ (b ++ (c ++ (d ++ (e ++ (f ++ (g ++ (h ++ (i ++ (j ++ (k ++ (l ++ (m ++ r))))))))))))
thirteen_joined a b c d e f g h i j k l m r = simp append_assoc

-- a line that is put in four parts, of which the first two have five and six
pub line_joined : {A : Type 0} (out o1 o2 o3 o4 a b c d e t f g h i j k l : List A) → o1 ≡ out ++ (a ++ b ++ c ++ d ++ e)
    → o2 ≡ o1 ++ (t ++ f ++ g ++ h ++ i ++ j) → o3 ≡ o2 ++ k → o4 ≡ o3 ++ l
    → o4 ≡ out ++ (a ++ b ++ c ++ d ++ e ++ t ++ f ++ g ++ h ++ i ++ j ++ k ++ l)
line_joined out o1 o2 o3 o4 a b c d e t f g h i j k l p q r s = s ∙ rw (r, q, p) (simp append_assoc)
