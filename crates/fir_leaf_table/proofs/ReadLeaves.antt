-- The leaves of a port: those that are driven, and those that are read.
use Rattle.std.proofs.Common.{◌≡◌, ℕ, zero, suc, ◌+◌, List, [], ◌∷◌, ◌++◌, map, sym, ap, ◌∙◌, arith, append_assoc}
use Rattle.std.proofs.lemmas.List.{map_push}
use Rattle.fir_meaning.specs.working.LeafMemories.{LeafMemory, read_role, read_roles, sinks}
use Rattle.fir_meaning.specs.working.LeafModules.{Need, sink}

-- two calls, one behind the other
pub put_twice : {A : Type 0} (old mid new xs ys : List A) → mid ≡ old ++ xs → new ≡ mid ++ ys → new ≡ old ++ (xs ++ ys)
put_twice old mid new xs ys first second = second ∙ ap (λ l. l ++ ys) first ∙ append_assoc old xs ys

-- and a step of a loop
pub put_more : {A B : Type 0} (see : A → B) (old now new : List A) (x : A) (so_far all : List B) → map see now ≡ map see old ++ so_far
    → new ≡ now ++ x ∷ [] → all ≡ so_far ++ see x ∷ [] → map see new ≡ map see old ++ all
put_more see old now new x so_far all left grown is =
    put_twice (map see old) (map see now) (map see new) so_far (see x ∷ []) left (ap (map see) grown ∙ map_push see now x)
    ∙ ap (λ l. map see old ++ l) (sym is)

pub sinks_add : (n m : ℕ) → sinks (n + m) ≡ sinks n ++ sinks m
sinks_add zero m = let same : 0 + m ≡ m = omega arith in ap sinks same
sinks_add (suc n) m = let same : suc n + m ≡ suc (n + m) = omega arith in ap sinks same ∙ ap (λ rs. sink ∷ rs) (sinks_add n m)

pub sinks_more : (n : ℕ) → sinks (n + 1) ≡ sinks n ++ sink ∷ []
sinks_more n = sinks_add n 1

pub reads_more : (m : LeafMemory) (needs : List Need) (b i n : ℕ)
    → read_roles m needs b i (n + 1) ≡ read_roles m needs b i n ++ read_role m needs b (i + n) ∷ []
reads_more m needs b i zero = let same : i ≡ i + 0 = omega arith in ap (λ k. read_role m needs b k ∷ []) same
reads_more m needs b i (suc n) =
    let next : suc n + 1 ≡ suc (n + 1) = omega arith in
    let same : suc i + n ≡ i + suc n = omega arith in
    ap (λ k. read_roles m needs b i k) next
    ∙ ap (λ rs. read_role m needs b i ∷ rs)
    (reads_more m needs b (suc i) n ∙ ap (λ k. read_roles m needs b (suc i) n ++ read_role m needs b k ∷ []) same)
