-- One step and then another, by what stands between them.

infixr 3 ◌▹◌
pub ◌▹◌ : {A : Type 0} {P Q : A → Type 0} → (p : (between : A) × P between) → Q p.0 → (between : A) × P between × Q between
p ▹ q = (p.0, p.1, q)
