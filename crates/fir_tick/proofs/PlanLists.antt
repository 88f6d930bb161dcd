-- Plans along the first leaves, with one more.
use Rattle.std.proofs.Common.{◌≡◌, ℕ, ◌+◌, ◌<◌, List, [], ◌∷◌, ◌++◌, take, length, get_or, sym, ap, ◌∙◌, append_assoc, append-nil, arith, length-take}
use Rattle.std.proofs.lemmas.List.{take_more}
use Rattle.fir_net.specs.declared.leaf.Role.{Role}
use Rattle.fir_net.specs.declared.leaf.Leaf.{Leaf}
use Rattle.fir_tick.specs.working.Plans.{plans_by}

plans_push : {P : Type 0} → (plan : Role → ℕ → ℕ → List P) (k : ℕ) (ls : List Leaf) (l : Leaf)
    → plans_by plan k (ls ++ l ∷ []) ≡ plans_by plan k ls ++ plan l.role l.width (k + length ls)
plans_push plan k [] l = let e : k ≡ k + 0 = omega arith in append-nil (plan l.role l.width k) ∙ ap (plan l.role l.width) e
plans_push plan k (m ∷ ls) l =
    let e : (k + 1) + length ls ≡ k + length (m ∷ ls) = omega arith in
    ap (λ r. plan m.role m.width k ++ r) (plans_push plan (k + 1) ls l ∙ ap (λ j. plans_by plan (k + 1) ls ++ plan l.role l.width j) e)
    ∙ sym (append_assoc (plan m.role m.width k) (plans_by plan (k + 1) ls) (plan l.role l.width (k + length (m ∷ ls))))

pub plans_more : {P : Type 0} → (plan : Role → ℕ → ℕ → List P) (ls : List Leaf) (i : ℕ) (l : Leaf) → i < length ls → l ≡ get_or ls i l
    → plans_by plan 0 (take (i + 1) ls) ≡ plans_by plan 0 (take i ls) ++ plan l.role l.width i
plans_more plan ls i l lt is =
    let long : 0 + length (take i ls) ≡ i = simp length-take (omega arith) in
    ap (plans_by plan 0) (take_more ls i l lt ∙ ap (λ y. take i ls ++ y ∷ []) (sym is)) ∙ plans_push plan 0 (take i ls) l
    ∙ ap (λ j. plans_by plan 0 (take i ls) ++ plan l.role l.width j) long

-- a leaf that gives a plan, and one that gives none
pub plan_more : {P : Type 0} → (plan : Role → ℕ → ℕ → List P) (ls : List Leaf) (i : ℕ) (l : Leaf) (before after : List P) (p : P) → i < length ls → l ≡ get_or ls i l
    → p ∷ [] ≡ plan l.role l.width i → before ≡ plans_by plan 0 (take i ls) → after ≡ before ++ p ∷ [] → after ≡ plans_by plan 0 (take (i + 1) ls)
plan_more plan ls i l before after p lt is given b a =
    a ∙ ap (λ r. before ++ r) given ∙ ap (λ r. r ++ plan l.role l.width i) b ∙ sym (plans_more plan ls i l lt is)

pub plan_less : {P : Type 0} → (plan : Role → ℕ → ℕ → List P) (ls : List Leaf) (i : ℕ) (l : Leaf) (plans : List P) → i < length ls → l ≡ get_or ls i l
    → [] ≡ plan l.role l.width i → plans ≡ plans_by plan 0 (take i ls) → plans ≡ plans_by plan 0 (take (i + 1) ls)
plan_less plan ls i l plans lt is given b =
    sym (append-nil plans) ∙ ap (λ r. plans ++ r) given ∙ ap (λ r. r ++ plan l.role l.width i) b ∙ sym (plans_more plan ls i l lt is)
