-- The writes of one array, one after the other: in the end each word of the array is what the net says, and all others are as before.
use Rattle.std.proofs.Common.{◌≡◌, ℕ, zero, suc, ◌+◌, ◌-◌, ◌<◌, ◌≤◌, List, [], ◌∷◌, ◌++◌, length, map, set, Bool, true, false, ◌&&◌, nat_eq, nat_lt, if◌then◌else◌, slice_index, refl, sym, ap, ◌∙◌, arith, ◌⊎◌, inl, inr, length-set}
use Rattle.std.specs.Prelude.{Option}
use Rattle.std.specs.List.{AllZip}
use Rattle.std.proofs.lemmas.Bool.{eq-eqb, cases_eq}
use Rattle.std.proofs.lemmas.Bool.Decides.{nat_tests}
use Rattle.std.proofs.lemmas.List.{get_or-set_same, get_or-set_other, set-append_left, set-append_right}
use Rattle.fir_net.specs.declared.array.ArrayWrite.{ArrayWrite}
use Rattle.fir_net.specs.declared.net.FlatNet.{FlatNet}
use Rattle.fir_net.specs.working.Arrays.{addresses}
use Rattle.fir_net.specs.working.Next.{ticks, word_after}
use Rattle.fir_net.specs.working.Settled.{is_high, value_at}
use Rattle.fir_net.specs.working.Values.{at_width}
use Rattle.fir_work.specs.working.Numbers.{number_at}
use Rattle.fir_work.specs.working.Tasks.{worked}
use Rattle.fir_tick.specs.declared.write_plans.WritePlan.{WritePlan}
use Rattle.fir_sim.proofs.Written.{one_put, put_all}

-- words by their addresses
pub addresses_same : (f g : ℕ → ℕ) (n from : ℕ) → ((i : ℕ) → from ≤ i → i < from + n → f i ≡ g i) → map f (addresses from n) ≡ map g (addresses from n)
unfolding addresses
addresses_same f g zero from h = refl
addresses_same f g (suc n) from h =
    let first = h from (omega arith) (omega arith) in
    let rest = addresses_same f g n (from + 1) (λ i l m. h i (omega (arith, l)) (omega (arith, m))) in
    rw (first, rest) refl

pub addresses_long : (f : ℕ → ℕ) (n from : ℕ) → length (map f (addresses from n)) ≡ n
unfolding addresses
addresses_long f zero from = refl
addresses_long f (suc n) from = ap suc (addresses_long f n (from + 1))

listed : (f : ℕ → ℕ) (xs : List ℕ) (from : ℕ) → ((i : ℕ) → f (from + i) ≡ slice_index xs i) → xs ≡ map f (addresses from (length xs))
unfolding addresses
listed f [] from h = refl
listed f (x ∷ xs) from h =
    let none : from + 0 ≡ from = omega arith in
    let first : x ≡ f from = sym (h 0) ∙ ap f none in
    let rest = listed f xs (from + 1) (λ i. let e : from + 1 + i ≡ from + suc i = omega arith in ap f e ∙ h (suc i)) in
    ap (λ (y : ℕ). y ∷ xs) first ∙ ap (λ (ys : List ℕ). f from ∷ ys) rest

-- a word of the array, where one is written
word_of : (t h : Bool) (address a n v : ℕ) (own : List ℕ) → length own ≡ n → a < n
    → slice_index (if t && (h && nat_lt address n) then set own address v else own) a ≡ (if t && (h && nat_eq address a) then v else slice_index own a)
word_of false h address a n v own long l = refl
word_of true false address a n v own long l = refl
word_of true true address a n v own long l = by (cases_eq address a)
  where
    by : (address ≡ a) ⊎ (address ≡ a → ⊥) → slice_index (if nat_lt address n then set own address v else own) a ≡ (if nat_eq address a then v else slice_index own a)
    by (inl e) =
        let below : nat_lt address n ≡ true = grind (arith, nat_tests) in
        let here : nat_eq address a ≡ true = eq-eqb address a e in
        let within : address < length own = omega (arith, long, l, e) in
        rw (below, here) (ap (λ (i : ℕ). slice_index (set own address v) i) (sym e) ∙ get_or-set_same own address v 0 within)
    by (inr apart) =
        let other : nat_eq address a ≡ false = grind (arith, nat_tests) in
        rw other (either (nat_lt address n))
      where
        either : (b : Bool) → slice_index (if b then set own address v else own) a ≡ slice_index own a
        either true = get_or-set_other own address a v 0 (λ e. apart (sym e))
        either false = refl

module _ (net : FlatNet) (ns : List ℕ) (env : ℕ → ℕ) (clock : ℕ → Option ℕ) (named : List ℕ) where
  -- a plan does what a write says of an array that begins there, and has so many words of that width
  pub record DoesWrite (begin n width : ℕ) (p : WritePlan) (w : ArrayWrite) : Type 0 where
    pub begins : p.span.begin ≡ begin
    pub long : p.span.words ≡ n
    pub clocked : ticks named p.clock ≡ ticks named (clock w.clock)
    pub high : nat_eq (number_at ns p.condition) 1 ≡ is_high net env w.condition
    pub address : number_at ns p.address ≡ (value_at net env w.address).value.number
    pub given : worked net p.given ns ≡ at_width (value_at net env w.given) width

  module _ (done rest : List ℕ) (n width : ℕ) where
    abbrev own_put : WritePlan → List ℕ → List ℕ
    own_put p own = if ticks named p.clock && (nat_eq (number_at ns p.condition) 1 && nat_lt (number_at ns p.address) n) then set own (number_at ns p.address) (worked net p.given ns) else own

    module _ (p : WritePlan) (w : ArrayWrite) (does : DoesWrite (length done) n width p w) (own : List ℕ) (long : length own ≡ n) where
      -- it changes the words of the array alone
      one_within : one_put net ns named p (done ++ (own ++ rest)) ≡ done ++ (own_put p own ++ rest)
      one_within =
          ap (λ (m : ℕ). if ticks named p.clock && (nat_eq (number_at ns p.condition) 1 && nat_lt (number_at ns p.address) m) then set (done ++ (own ++ rest)) (p.span.begin + number_at ns p.address) (worked net p.given ns) else (done ++ (own ++ rest))) does.long
          ∙ by (ticks named p.clock) (nat_eq (number_at ns p.condition) 1) (nat_lt (number_at ns p.address) n) refl
        where
          address : ℕ
          address = number_at ns p.address

          value : ℕ
          value = worked net p.given ns

          by : (t h l : Bool) → nat_lt address n ≡ l → (if t && (h && l) then set (done ++ (own ++ rest)) (p.span.begin + address) value else (done ++ (own ++ rest))) ≡ done ++ ((if t && (h && l) then set own address value else own) ++ rest)
          by false h l is = refl
          by true false l is = refl
          by true true false is = refl
          by true true true is =
              let begins = does.begins in
              let below : address < length own = grind (arith, nat_tests) in
              let offset : (length done + address) - length done ≡ address = omega arith in
              ap (λ (b : ℕ). set (done ++ (own ++ rest)) (b + address) value) begins
              ∙ set-append_right done (own ++ rest) (length done) (length done + address) value refl (omega arith)
              ∙ ap (λ (i : ℕ). done ++ set (own ++ rest) i value) offset ∙ ap (λ (xs : List ℕ). done ++ xs) (set-append_left own rest address value below)

      own_long : length (own_put p own) ≡ n
      own_long = by (ticks named p.clock && (nat_eq (number_at ns p.condition) 1 && nat_lt (number_at ns p.address) n))
        where
          by : (b : Bool) → length (if b then set own (number_at ns p.address) (worked net p.given ns) else own) ≡ n
          by true = length-set own (number_at ns p.address) (worked net p.given ns) ∙ long
          by false = long

      -- and gives them what the net says
      one_word : (a : ℕ) → a < n → slice_index (own_put p own) a
          ≡ (if ticks named (clock w.clock) && (is_high net env w.condition && nat_eq (value_at net env w.address).value.number a) then at_width (value_at net env w.given) width else slice_index own a)
      one_word a l =
          word_of (ticks named p.clock) (nat_eq (number_at ns p.condition) 1) (number_at ns p.address) a n (worked net p.given ns) own long l
          ∙ rw (does.clocked, does.high, does.address, does.given) refl

    pub all_within : (ws : List ArrayWrite) (ps : List WritePlan) (own : List ℕ) → AllZip (DoesWrite (length done) n width) ps ws → length own ≡ n
        → put_all net ns named ps (done ++ (own ++ rest)) ≡ done ++ (map (λ a. word_after net env clock named width ws a (slice_index own a)) (addresses 0 n) ++ rest)
    all_within [] [] own pairs long =
        let all = listed (slice_index own) own 0 (λ i. let e : 0 + i ≡ i = omega arith in ap (slice_index own) e) in
        ap (λ (xs : List ℕ). done ++ (xs ++ rest)) (all ∙ ap (λ (m : ℕ). map (slice_index own) (addresses 0 m)) long)
    all_within [] (p ∷ ps) own pairs long = absurd pairs
    all_within (w ∷ ws) [] own pairs long = absurd pairs
    all_within (w ∷ ws) (p ∷ ps) own pairs long =
        ap (put_all net ns named ps) (one_within p w pairs.0 own long)
        ∙ all_within ws ps (own_put p own) pairs.1 (own_long p w pairs.0 own long)
        ∙ ap (λ (xs : List ℕ). done ++ (xs ++ rest))
        (addresses_same (λ a. word_after net env clock named width ws a (slice_index (own_put p own) a)) (λ a. word_after net env clock named width (w ∷ ws) a (slice_index own a)) n 0
        (λ a low l. let below : a < n = omega (arith, l) in ap (word_after net env clock named width ws a) (one_word p w pairs.0 own long a below)))
