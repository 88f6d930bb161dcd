-- Names of memories and of instances with paths of arrays, where no name is that of two.
use Rattle.std.proofs.Common.{◌≡◌, List, [], ◌∷◌, ◌++◌, ℕ, sym, ◌∙◌, subst, ⊎_elim}
use Rattle.fir_base.specs.Lists.{In, Distinct}
use Rattle.fir_base.proofs.Members.{in_either, in_left, in_right}
use Rattle.fir_base.proofs.Twins.{apart, distinct_joined, distinct_left, distinct_right}
use Rattle.fir_meaning.specs.LeafPaths.{LeafPath, named}

-- a path that begins with one of some names
pub record BeginsAmong (names : List (List ℕ)) (q : LeafPath) : Type 0 where
  pub name : List ℕ
  pub among : In names name
  pub rest : LeafPath
  pub is : q ≡ named name ∷ rest

-- what holds of the names of all, of memories and of instances, and of the paths of arrays
pub record AreApart (all memories instances : List (List ℕ)) (paths : List LeafPath) : Type 0 where
  pub memory_in : (x : List ℕ) → In memories x → In all x
  pub instance_in : (x : List ℕ) → In instances x → In all x
  pub begins : (q : LeafPath) → In paths q → BeginsAmong memories q
  pub apart : Distinct all → (x : List ℕ) → In memories x → In instances x → ⊥
  pub instances_once : Distinct all → Distinct instances
  pub paths_once : Distinct all → Distinct paths

pub none_apart : AreApart [] [] [] []
none_apart = record {
  memory_in = λ x m. m;
  instance_in = λ x m. m;
  begins = λ q m. absurd m;
  apart = λ d x m n. m;
  instances_once = λ d. d;
  paths_once = λ d. d;
}

pub one_instance : (x : List ℕ) → AreApart (x ∷ []) [] (x ∷ []) []
one_instance x = record {
  memory_in = λ y m. absurd m;
  instance_in = λ y m. m;
  begins = λ q m. absurd m;
  apart = λ d y m n. m;
  instances_once = λ d. d;
  paths_once = λ d. tt;
}

pub apart_joined : (n1 n2 m1 m2 i1 i2 : List (List ℕ)) (q1 q2 : List LeafPath) → AreApart n1 m1 i1 q1 → AreApart n2 m2 i2 q2
    → AreApart (n1 ++ n2) (m1 ++ m2) (i1 ++ i2) (q1 ++ q2)
apart_joined n1 n2 m1 m2 i1 i2 q1 q2 a b = record {
  memory_in = λ x m.
      ⊎_elim (λ (l : In m1 x). in_left n1 n2 x (a.memory_in x l)) (λ (r : In m2 x). in_right n1 n2 x (b.memory_in x r)) (in_either m1 m2 x m);
  instance_in = λ x m.
      ⊎_elim (λ (l : In i1 x). in_left n1 n2 x (a.instance_in x l)) (λ (r : In i2 x). in_right n1 n2 x (b.instance_in x r)) (in_either i1 i2 x m);
  begins = λ q m.
      ⊎_elim
      (λ (l : In q1 q). let g = a.begins q l in record { name = g.name; among = in_left m1 m2 g.name g.among; rest = g.rest; is = g.is })
      (λ (r : In q2 q). let g = b.begins q r in record { name = g.name; among = in_right m1 m2 g.name g.among; rest = g.rest; is = g.is })
      (in_either q1 q2 q m);
  apart = λ d x m i.
      ⊎_elim
      (λ (l : In m1 x).
      ⊎_elim (λ (k : In i1 x). a.apart (distinct_left n1 n2 d) x l k) (λ (k : In i2 x). apart n1 n2 d x (a.memory_in x l) (b.instance_in x k))
      (in_either i1 i2 x i))
      (λ (r : In m2 x).
      ⊎_elim (λ (k : In i1 x). apart n1 n2 d x (a.instance_in x k) (b.memory_in x r)) (λ (k : In i2 x). b.apart (distinct_right n1 n2 d) x r k)
      (in_either i1 i2 x i))
      (in_either m1 m2 x m);
  instances_once = λ d.
      distinct_joined i1 i2 (a.instances_once (distinct_left n1 n2 d)) (b.instances_once (distinct_right n1 n2 d))
      (λ x l r. apart n1 n2 d x (a.instance_in x l) (b.instance_in x r));
  paths_once = λ d.
      distinct_joined q1 q2 (a.paths_once (distinct_left n1 n2 d)) (b.paths_once (distinct_right n1 n2 d))
      (λ q l r.
      let one = a.begins q l in
      let other = b.begins q r in
      let firsts : named one.name ∷ one.rest ≡ named other.name ∷ other.rest = sym one.is ∙ other.is in
      let same : one.name ≡ other.name = cc in
      apart n1 n2 d one.name (a.memory_in one.name one.among) (b.memory_in one.name (subst (In m2) (sym same) other.among)));
}
