-- Flags of the leaves of a list that change one after another.
use Rattle.std.proofs.Common.{◌≡◌, ℕ, ◌+◌, ◌<◌, ◌≤◌, List, Bool, true, false, ◌&&◌, ◌||◌, if◌then◌else◌, length, take, get_or, refl, ap, ◌∙◌, nat_eq, nat_lt, arith}
use Rattle.std.proofs.lemmas.Bool.{eqb-true, lt-ltb, le-ltb}
use Rattle.fir_meaning.specs.working.TermReads.{is_among}
use Rattle.fir_driven.specs.working.Covering.{depth_in, flag_at}
use Rattle.fir_driven.specs.working.FlagChanges.{FlagsBecome}
use Rattle.fir_driven.proofs.AmongLeaves.{among_more}

pub become_then : (a b c : List Bool) (f g h : ℕ → Bool → Bool) → FlagsBecome a b f → FlagsBecome b c g
    → ((x : ℕ) (was : Bool) → g x (f x was) ≡ h x was) → FlagsBecome a c h
become_then a b c f g h p q e = record {
  count = q.count ∙ p.count;
  each = λ x lt.
      let within : x < length b = omega (arith, p.count) in
      q.each x within ∙ ap (g x) (p.each x lt) ∙ e x (flag_at a x);
}

pub become_as : (a b : List Bool) (f h : ℕ → Bool → Bool) → FlagsBecome a b f → ((x : ℕ) (was : Bool) → f x was ≡ h x was) → FlagsBecome a b h
become_as a b f h p e = record { count = p.count; each = λ x lt. p.each x lt ∙ e x (flag_at a x) }

-- one more gets the flag
set_here : (here among flag was : Bool) → (if here then flag else if among then flag else was) ≡ (if among || here then flag else was)
set_here true true flag was = refl
set_here true false flag was = refl
set_here false true flag was = refl
set_here false false flag was = refl

pub set_more : (a b c : List Bool) (xs : List ℕ) (i d : ℕ) (flag : Bool) → i < length xs
    → FlagsBecome a b (λ x was. if is_among (take i xs) x then flag else was) → FlagsBecome b c (λ x was. if nat_eq (get_or xs i d) x then flag else was)
    → FlagsBecome a c (λ x was. if is_among (take (i + 1) xs) x then flag else was)
set_more a b c xs i d flag lt p q =
    become_then a b c _ _ _ p q
    (λ x was. rw (among_more xs i d x lt) (set_here (nat_eq (get_or xs i d) x) (is_among (take i xs) x) flag was))

-- one more is declared further in
inner_here : (here among inner was : Bool) → (here ≡ true → inner ≡ true)
    → (if here then true else (was || (among && inner))) ≡ (was || ((among || here) && inner))
inner_here here among inner was h = grind arith

pub inner_more : (a b c : List Bool) (xs depths : List ℕ) (i d k : ℕ) → i < length xs
    → FlagsBecome a b (λ x was. was || (is_among (take i xs) x && nat_lt k (depth_in depths x))) → k < depth_in depths (get_or xs i d)
    → FlagsBecome b c (λ x was. if nat_eq (get_or xs i d) x then true else was)
    → FlagsBecome a c (λ x was. was || (is_among (take (i + 1) xs) x && nat_lt k (depth_in depths x)))
inner_more a b c xs depths i d k lt p in_ q =
    become_then a b c _ _ _ p q
    (λ x was. rw (among_more xs i d x lt) (inner_here (nat_eq (get_or xs i d) x) (is_among (take i xs) x) (nat_lt k (depth_in depths x)) was
    (λ e. let same : get_or xs i d ≡ x = eqb-true _ _ e in lt-ltb k (depth_in depths x) (rw (← same) in_))))

-- or it is not
outer_here : (here among inner was : Bool) → (here ≡ true → inner ≡ false) → (was || (among && inner)) ≡ (was || ((among || here) && inner))
outer_here here among inner was h = grind arith

pub inner_same : (a b : List Bool) (xs depths : List ℕ) (i d k : ℕ) → i < length xs
    → FlagsBecome a b (λ x was. was || (is_among (take i xs) x && nat_lt k (depth_in depths x))) → depth_in depths (get_or xs i d) ≤ k
    → FlagsBecome a b (λ x was. was || (is_among (take (i + 1) xs) x && nat_lt k (depth_in depths x)))
inner_same a b xs depths i d k lt p out =
    become_as a b _ _ p
    (λ x was. rw (among_more xs i d x lt) (outer_here (nat_eq (get_or xs i d) x) (is_among (take i xs) x) (nat_lt k (depth_in depths x)) was
    (λ e. let same : get_or xs i d ≡ x = eqb-true _ _ e in le-ltb k (depth_in depths x) (rw (← same) out))))
