-- The numbers of processes, and how they are shuffled.
use Rattle.std.proofs.Common.{◌≡◌, ℕ, zero, suc, ◌+◌, ◌-◌, ◌/◌, ◌%◌, ◌^◌, ◌<◌, ◌≤◌, List, [], ◌∷◌, ◌++◌, length, add-one, inl, inr, refl, sym, ap, ◌∙◌, subst, arith}
use Rattle.std.specs.Prelude.{slice_index_or}
use Rattle.std.specs.List.{Contains, swap}
use Rattle.std.specs.List.Sorted.{IsPermutation}
use Rattle.std.proofs.Math.ListN.{length-set}
use Rattle.std.proofs.lemmas.List.Edits.{swap_is}
use Rattle.std.proofs.lemmas.List.Sorted.{IsPermutation-refl, IsPermutation-swap, IsPermutation-trans, Contains-permutation}
use Rattle.fir_base.specs.Lists.{In}
use Rattle.ver_order.specs.working.Rounds.{IsRound}
use Rattle.ver_runner.specs.Orders.{exchanged, next_seed, numbers_from, round_for, shuffled}

-- one number more stands last
pub one_more : (first count last : ℕ) → first + count ≡ last → numbers_from first (count + 1) ≡ numbers_from first count ++ last ∷ []
one_more first zero last is = ap (λ n. n ∷ []) (omega arith)
one_more first (suc count) last is = simp add-one (ap (λ ns. first ∷ ns) (simp add-one at (one_more (first + 1) count last (omega arith))))

pub as_many : (first count : ℕ) → length (numbers_from first count) ≡ count
as_many first zero = refl
as_many first (suc count) = ap suc (as_many (first + 1) count)

has_each : (first count k : ℕ) → k < count → In (numbers_from first count) (first + k)
has_each first zero k low = absurd (omega arith)
has_each first (suc count) zero low = inl (omega arith)
has_each first (suc count) (suc k) low =
    let there : In (numbers_from (first + 1) count) ((first + 1) + k) = has_each (first + 1) count k (omega arith) in
    let same : (first + 1) + k ≡ first + suc k = omega arith in
    inr (subst (λ n. In (numbers_from (first + 1) count) n) same there)

contained : (xs : List ℕ) (x : ℕ) → In xs x → Contains xs x
contained [] x h = absurd h
contained (y ∷ ys) x (inl same) = (0, omega arith, same)
contained (y ∷ ys) x (inr h) = let there = contained ys x h in (suc there.0, omega arith, there.2)

found : (xs : List ℕ) (x k : ℕ) → k < length xs → slice_index_or xs k x ≡ x → In xs x
found [] x k low here = absurd (omega arith)
found (y ∷ ys) x zero low here = inl here
found (y ∷ ys) x (suc k) low here = inr (found ys x k (omega arith) here)

-- the drawn entry is one of the first
drawn : (i s : ℕ) → s / 2 ^ 33 % (suc i + 1) < suc i + 1
drawn i s = omega arith

exchange_keeps : (i j : ℕ) (list : List ℕ) → i < length list → j < length list → IsPermutation list (exchanged i j list)
exchange_keeps i j list low lower = IsPermutation-swap list (exchanged i j list) i j low lower (swap_is list i j 0 low lower)

pub exchange_long : (i j : ℕ) (list : List ℕ) → length (exchanged i j list) ≡ length list
exchange_long i j list = simp length-set

pub shuffle_keeps : (i s : ℕ) (list : List ℕ) → i ≤ length list - 1 → IsPermutation list (shuffled i s list)
unfolding shuffled
shuffle_keeps zero s list low = IsPermutation-refl list
shuffle_keeps (suc i) s list low =
    let j = next_seed s / 2 ^ 33 % (suc i + 1) in
    let below : j < suc i + 1 = drawn i (next_seed s) in
    let within : suc i < length list = omega arith in
    let long : length (exchanged (suc i) j list) ≡ length list = exchange_long (suc i) j list in
    IsPermutation-trans list (exchanged (suc i) j list) (shuffled i (next_seed s) (exchanged (suc i) j list))
    (exchange_keeps (suc i) j list within (omega arith)) (shuffle_keeps i (next_seed s) (exchanged (suc i) j list) (omega arith))

pub is_round : (count number : ℕ) → IsRound count (round_for count number)
is_round count number k low =
    let list = numbers_from 0 count in
    let long : length list ≡ count = as_many 0 count in
    let all = shuffle_keeps (count - 1) number list (omega arith) in
    let there : In list (0 + k) = has_each 0 count k low in
    let same : 0 + k ≡ k = omega arith in
    let here = Contains-permutation list (round_for count number) k all (contained list k (subst (λ n. In list n) same there)) in
    found (round_for count number) k here.0 here.1 here.2

-- an entry changes places, and the others before it are shuffled
pub one_turn : (i s t : ℕ) (list next : List ℕ) → 1 ≤ i → i < length list → t ≡ next_seed s → next ≡ swap list i (t / 2 ^ 33 % (i + 1))
    → shuffled (i - 1) t next ≡ shuffled i s list
unfolding shuffled
one_turn zero s t list next some low seed is = absurd (omega arith)
one_turn (suc i) s t list next some low seed is =
    let j = t / 2 ^ 33 % (suc i + 1) in
    let below : j < suc i + 1 = drawn i t in
    let same : exchanged (suc i) j list ≡ next = swap_is list (suc i) j 0 low (omega arith) ∙ sym is in
    let down : suc i - 1 ≡ i = omega arith in
    ap (λ k. shuffled k t next) down ∙ ap (shuffled i t) (sym same)
    ∙ ap (λ n. shuffled i n (exchanged (suc i) (n / 2 ^ 33 % (suc i + 1)) list)) seed

pub no_turn : (i s : ℕ) (list : List ℕ) → i ≤ 1 → list ≡ shuffled (i - 1) s list
unfolding shuffled
no_turn i s list low = let none : i - 1 ≡ 0 = omega arith in ap (λ k. shuffled k s list) (sym none)
