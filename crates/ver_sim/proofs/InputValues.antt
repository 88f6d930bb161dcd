-- Inputs that take their values, by number and by name.
use Rattle.std.proofs.Common.{◌≡◌, ℕ, zero, suc, ◌+◌, ◌^◌, ◌<◌, List, [], ◌∷◌, length, map, drop, get_or, refl, sym, ap, ◌∙◌, inl, inr, subst, arith, length-set}
use Rattle.std.specs.Prelude.{slice_index, slice_set}
use Rattle.std.specs.Str.{bytes_eq}
use Rattle.std.proofs.lemmas.Bool.{cond-true, cond-false}
use Rattle.std.proofs.lemmas.List.{at_drop_more}
use Rattle.fir_base.specs.Lists.{In, Distinct}
use Rattle.fir_base.specs.Ticks.{FitEach}
use Rattle.fir_base.proofs.SameNames.{name_same, name_other}
use Rattle.ver_ast.specs.declared.tree.Verilog.{Verilog}
use Rattle.ver_ast.specs.Nets.{SizedNet, names_of, widths_of}
use Rattle.ver_sim.specs.working.Valued.{place_among, valued, env_of}
use Rattle.ver_sim.specs.working.Inputs.{inputs_put}
use Rattle.ver_sim.proofs.PlacedNames.{put_value}

dropped : (i : ℕ) (xs : List ℕ) → drop 1 (drop i xs) ≡ drop (i + 1) xs
dropped zero xs = let e : 1 ≡ 0 + 1 = omega arith in ap (λ (j : ℕ). drop j xs) e
dropped (suc i) [] = let e : suc (i + 1) ≡ suc i + 1 = omega arith in ap (λ (j : ℕ). drop j []) e
dropped (suc i) (x ∷ xs) = let e : suc (i + 1) ≡ suc i + 1 = omega arith in dropped i xs ∙ ap (λ (j : ℕ). drop j (x ∷ xs)) e

first_dropped : (i : ℕ) (xs : List ℕ) → get_or (drop i xs) 0 0 ≡ get_or xs i 0
first_dropped zero xs = refl
first_dropped (suc i) [] = refl
first_dropped (suc i) (x ∷ xs) = first_dropped i xs

-- one more
pub inputs_next : (ps inputs : List ℕ) (i : ℕ) (values new start : List ℕ) → i < length ps → inputs_put (drop i ps) (drop i inputs) values ≡ start
    → new ≡ slice_set values (get_or ps i 0) (slice_index inputs i) → inputs_put (drop (i + 1) ps) (drop (i + 1) inputs) new ≡ start
unfolding inputs_put
inputs_next ps inputs i values new start lt h n =
    ap (inputs_put (drop (i + 1) ps) (drop (i + 1) inputs)) (n ∙ ap (slice_set values (get_or ps i 0)) (sym (first_dropped i inputs)))
    ∙ ap (λ ys. inputs_put (drop (i + 1) ps) ys (slice_set values (get_or ps i 0) (slice_index (drop i inputs) 0))) (sym (dropped i inputs))
    ∙ sym (at_drop_more (λ l. inputs_put l (drop i inputs) values) ps i 0 lt) ∙ h

pub inputs_none : (inputs values : List ℕ) → inputs_put [] inputs values ≡ values
unfolding inputs_put
inputs_none inputs values = refl

module _ (v : Verilog) where
  abbrev places : List (List ℕ) → List ℕ
  places = map (place_among (valued v))

  pub long_after : (ns : List (List ℕ)) (inputs values : List ℕ) → length (inputs_put (places ns) inputs values) ≡ length values
  unfolding inputs_put
  long_after [] inputs values = refl
  long_after (n ∷ ns) inputs values =
      long_after ns (drop 1 inputs) (slice_set values (place_among (valued v) n) (slice_index inputs 0))
      ∙ length-set values (place_among (valued v) n) (slice_index inputs 0)

  -- other names keep their values
  pub others_keep : (ns : List (List ℕ)) (inputs values : List ℕ) → ((n : List ℕ) → In ns n → In (valued v) n) → length values ≡ length (valued v)
      → (m : List ℕ) → (In ns m → ⊥) → env_of v (inputs_put (places ns) inputs values) m ≡ env_of v values m
  unfolding inputs_put
  others_keep [] inputs values are long m none = refl
  others_keep (n ∷ ns) inputs values are long m none =
      let x = slice_index inputs 0 in
      others_keep ns (drop 1 inputs) (slice_set values (place_among (valued v) n) x) (λ k i. are k (inr i)) (length-set values (place_among (valued v) n) x ∙ long) m (λ i. none (inr i))
      ∙ put_value v values n x (are n (inl refl)) long m ∙ cond-false (bytes_eq m n) x (env_of v values m) (name_other m n (λ e. none (inl (sym e))))

  -- and each of these names has its own
  pub inputs_are : (ps : List SizedNet) (inputs values : List ℕ) → Distinct (names_of ps) → ((n : List ℕ) → In (names_of ps) n → In (valued v) n)
      → length values ≡ length (valued v) → FitEach (widths_of ps) inputs → map (env_of v (inputs_put (places (names_of ps)) inputs values)) (names_of ps) ≡ inputs
  unfolding inputs_put
  inputs_are [] [] values d are long h = refl
  inputs_are [] (x ∷ xs) values d are long h = absurd h
  inputs_are (p ∷ ps) [] values d are long h = absurd h
  inputs_are (p ∷ ps) (x ∷ xs) values d are long h =
      let next = slice_set values (place_among (valued v) p.0) x in
      let still : length next ≡ length (valued v) = length-set values (place_among (valued v) p.0) x ∙ long in
      let here : env_of v (inputs_put (places (names_of ps)) xs next) p.0 ≡ x =
      others_keep (names_of ps) xs next (λ k i. are k (inr i)) still p.0 d.0
      ∙ put_value v values p.0 x (are p.0 (inl refl)) long p.0 ∙ cond-true (bytes_eq p.0 p.0) x (env_of v values p.0) (name_same p.0) in
      ap (λ y. y ∷ map (env_of v (inputs_put (places (names_of ps)) xs next)) (names_of ps)) here
      ∙ ap (λ ys. x ∷ ys) (inputs_are ps xs next d.1 (λ k i. are k (inr i)) still h.1)

-- a net that is one of the list has a value of its width
pub listed_fit : (env : List ℕ → ℕ) (ps : List SizedNet) (inputs : List ℕ) → map env (names_of ps) ≡ inputs → FitEach (widths_of ps) inputs
    → (p : SizedNet) → In ps p → env p.0 < 2 ^ p.1
listed_fit env [] inputs e h p m = absurd m
listed_fit env (q ∷ ps) [] e h p m = absurd h
listed_fit env (q ∷ ps) (x ∷ xs) e h p (inl s) =
    let first : env q.0 ≡ x = cc in
    subst (λ (r : SizedNet). env r.0 < 2 ^ r.1) s (rw first h.0)
listed_fit env (q ∷ ps) (x ∷ xs) e h p (inr m) = let rest : map env (names_of ps) ≡ xs = cc in listed_fit env ps xs rest h.1 p m
