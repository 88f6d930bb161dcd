-- Expressions that are pushed one by one, each made of others that stand from a number on.
use Rattle.std.proofs.Common.{◌≡◌, ℕ, zero, suc, ◌+◌, ◌-◌, ◌<◌, ◌≤◌, ◌^◌, List, [], ◌∷◌, ◌++◌, length, take, min, Some, refl, sym, ap, ◌∙◌, subst, append_assoc, arith}
use Rattle.std.specs.Prelude.{slice_get}
use Rattle.std.proofs.lemmas.List.{take_more, take_all, append-nil}
use Rattle.std.proofs.lemmas.Option.{slice_get_within, get_or_from_slice_get}
use Rattle.fir_base.proofs.Elements.{there}
use Rattle.fir_meaning.specs.WidthExpressions.{Width, greater, guarded, Rule}
use Rattle.fir_least_widths.specs.declared.bound.Term.{Term}
use Rattle.fir_least_widths.specs.declared.bound.Term.TheVariants.{Greater, Guarded}
use Rattle.fir_infer_widths.specs.declared.arena.Arena.{Arena}
use Rattle.fir_width.specs.working.FlatWidths.{greater_each, guarded_each}
use Rattle.fir_infer_widths.specs.working.Numbered.{IsTermOf, Keeps}
use Rattle.fir_width.specs.working.StandingWidths.{Has, Stands}
use Rattle.fir_infer_widths.proofs.FlatForms.{greater_counted, guarded_counted}
use Rattle.fir_width.proofs.StandingWidths.{has_more}
use Rattle.fir_infer_widths.proofs.ArenaGrows.{marks_long}

greater_at : (vs ws : List Width) (i : ℕ) (v w : Width) → slice_get vs i ≡ Some v → slice_get ws i ≡ Some w
    → slice_get (greater_each vs ws) i ≡ Some (greater v w)
greater_at [] ws i v w h k = absurd (cc)
greater_at (x ∷ vs) [] i v w h k = absurd (cc)
greater_at (x ∷ vs) (y ∷ ws) zero v w h k = let e : x ≡ v = cc in let f : y ≡ w = cc in rw (e, f) refl
greater_at (x ∷ vs) (y ∷ ws) (suc i) v w h k = greater_at vs ws i v w h k

guarded_at : (c : Width) (ws : List Width) (i : ℕ) (w : Width) → slice_get ws i ≡ Some w → slice_get (guarded_each c ws) i ≡ Some (guarded c w)
guarded_at c [] i w h = absurd (cc)
guarded_at c (y ∷ ws) zero w h = let e : y ≡ w = cc in rw e refl
guarded_at c (y ∷ ws) (suc i) w h = guarded_at c ws i w h

take_next : {A : Type 0} → (xs : List A) (i : ℕ) (x : A) → slice_get xs i ≡ Some x → take (i + 1) xs ≡ take i xs ++ x ∷ []
take_next xs i x h = take_more xs i x (slice_get_within xs i x h) ∙ ap (λ y. take i xs ++ y ∷ []) (get_or_from_slice_get xs i x x h)

-- a number that has an expression is reached without saturation
reached : (meant : List Width) (first i number : ℕ) (e : Width) → length meant < 2 ^ 64 → number ≡ min (first + i) (2 ^ 64 - 1) → Has meant (first + i) e
    → Has meant number e
reached meant first i number e short is h =
    let same : first + i ≡ number = omega (arith, is, short, slice_get_within meant (first + i) e h) in
    subst (λ k. Has meant k e) same h

-- a push of one expression
abbrev pub Pushes : Arena → Arena → Term → ℕ → Type 0
Pushes old new t number = (meant : List Width) (rules : List Rule) (e : Width) → Keeps meant rules old → IsTermOf meant e t → (number ≡ length meant) × Keeps (meant ++ e ∷ []) rules new

one_more : (meant es : List Width) (rules : List Rule) (old new : Arena) (t : Term) (number i : ℕ) (e : Width) → Keeps (meant ++ take i es) rules old
    → slice_get es i ≡ Some e → IsTermOf (meant ++ take i es) e t → Pushes old new t number → Keeps (meant ++ take (i + 1) es) rules new
one_more meant es rules old new t number i e keeps at is pushes =
    subst (λ all. Keeps all rules new) (append_assoc meant (take i es) (e ∷ []) ∙ ap (λ l. meant ++ l) (sym (take_next es i e at)))
    (pushes (meant ++ take i es) rules e keeps is).1

whole : (meant es : List Width) (rules : List Rule) (new : Arena) (i : ℕ) → length es ≤ i → Keeps (meant ++ take i es) rules new → Keeps (meant ++ es) rules new
whole meant es rules new i long keeps = subst (λ l. Keeps (meant ++ l) rules new) (take_all i es long) keeps

-- of the greater of each two those before a number are pushed
pub record GreaterPushed (old new : Arena) (one other count i : ℕ) : Type 0 where
  pub keeps : (meant : List Width) (rules : List Rule) (vs ws : List Width) → Keeps meant rules old → length vs ≡ count → length ws ≡ count
      → Stands meant one vs → Stands meant other ws → Keeps (meant ++ take i (greater_each vs ws)) rules new

pub no_greater : (old : Arena) (one other count : ℕ) → GreaterPushed old old one other count 0
no_greater old one other count = record { keeps = λ meant rules vs ws k p q s t. subst (λ l. Keeps l rules old) (sym (append-nil meant)) k }

pub next_greater : (old middle new : Arena) (one other count i a b number : ℕ) → length old.written.items < 2 ^ 64 → i < count → a ≡ min (one + i) (2 ^ 64 - 1)
    → b ≡ min (other + i) (2 ^ 64 - 1) → GreaterPushed old middle one other count i → Pushes middle new (Greater a b) number
    → GreaterPushed old new one other count (i + 1)
next_greater old middle new one other count i a b number short less is_a is_b far pushes = record { keeps = keeps }
  where
    keeps : (meant : List Width) (rules : List Rule) (vs ws : List Width) → Keeps meant rules old → length vs ≡ count → length ws ≡ count → Stands meant one vs
        → Stands meant other ws → Keeps (meant ++ take (i + 1) (greater_each vs ws)) rules new
    keeps meant rules vs ws k p q s t =
        let narrow : length meant < 2 ^ 64 = omega (arith, short, marks_long meant old.written.items k.marks) in
        let v = there vs i (omega (arith, p, less)) in
        let w = there ws i (omega (arith, q, less)) in
        let es : List Width = greater_each vs ws in
        let has_v : Has meant a v.0 = reached meant one i a v.0 narrow is_a (s.each i v.0 v.1) in
        let has_w : Has meant b w.0 = reached meant other i b w.0 narrow is_b (t.each i w.0 w.1) in
        one_more meant es rules middle new (Greater a b) number i (greater v.0 w.0) (far.keeps meant rules vs ws k p q s t) (greater_at vs ws i v.0 w.0 v.1 w.1)
        (a, b, refl, has_more meant (take i es) a v.0 has_v, has_more meant (take i es) b w.0 has_w) pushes

pub all_greater : (meant : List Width) (rules : List Rule) (vs ws : List Width) (old new : Arena) (one other count i : ℕ) → count ≤ i
    → GreaterPushed old new one other count i → Keeps meant rules old → length vs ≡ count → length ws ≡ count → Stands meant one vs → Stands meant other ws
    → Keeps (meant ++ greater_each vs ws) rules new
all_greater meant rules vs ws old new one other count i end far k p q s t =
    whole meant (greater_each vs ws) rules new i (omega (arith, greater_counted vs ws (p ∙ sym q), p, end)) (far.keeps meant rules vs ws k p q s t)

-- and of those that a condition guards
pub record GuardedPushed (old new : Arena) (condition one count i : ℕ) : Type 0 where
  pub keeps : (meant : List Width) (rules : List Rule) (c : Width) (ws : List Width) → Keeps meant rules old → length ws ≡ count → Has meant condition c
      → Stands meant one ws → Keeps (meant ++ take i (guarded_each c ws)) rules new

pub no_guarded : (old : Arena) (condition one count : ℕ) → GuardedPushed old old condition one count 0
no_guarded old condition one count = record { keeps = λ meant rules c ws k p h t. subst (λ l. Keeps l rules old) (sym (append-nil meant)) k }

pub next_guarded : (old middle new : Arena) (condition one count i b number : ℕ) → length old.written.items < 2 ^ 64 → i < count
    → b ≡ min (one + i) (2 ^ 64 - 1) → GuardedPushed old middle condition one count i → Pushes middle new (Guarded condition b) number
    → GuardedPushed old new condition one count (i + 1)
next_guarded old middle new condition one count i b number short less is_b far pushes = record { keeps = keeps }
  where
    keeps : (meant : List Width) (rules : List Rule) (c : Width) (ws : List Width) → Keeps meant rules old → length ws ≡ count → Has meant condition c
        → Stands meant one ws → Keeps (meant ++ take (i + 1) (guarded_each c ws)) rules new
    keeps meant rules c ws k p h t =
        let narrow : length meant < 2 ^ 64 = omega (arith, short, marks_long meant old.written.items k.marks) in
        let w = there ws i (omega (arith, p, less)) in
        let es : List Width = guarded_each c ws in
        let has_w : Has meant b w.0 = reached meant one i b w.0 narrow is_b (t.each i w.0 w.1) in
        one_more meant es rules middle new (Guarded condition b) number i (guarded c w.0) (far.keeps meant rules c ws k p h t) (guarded_at c ws i w.0 w.1)
        (condition, b, refl, has_more meant (take i es) condition c h, has_more meant (take i es) b w.0 has_w) pushes

pub all_guarded : (meant : List Width) (rules : List Rule) (c : Width) (ws : List Width) (old new : Arena) (condition one count i : ℕ) → count ≤ i
    → GuardedPushed old new condition one count i → Keeps meant rules old → length ws ≡ count → Has meant condition c → Stands meant one ws
    → Keeps (meant ++ guarded_each c ws) rules new
all_guarded meant rules c ws old new condition one count i end far k p h t =
    whole meant (guarded_each c ws) rules new i (omega (arith, guarded_counted c ws, p, end)) (far.keeps meant rules c ws k p h t)
