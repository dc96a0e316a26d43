-- Refusals at places: the same where refusal and place are.
-- Assumes nothing.
use Rattle.std.proofs.Common.{◌≡◌, ℕ, Result, Err, ap, ◌∙◌}
use Rattle.facts.specs.declared.Refusal.{Refusal}
use Rattle.facts.specs.declared.Refused.{Refused}
use Rattle.facts.specs.Results.{refused_at}

-- of two that are the same, refusal and place are
pub same_parts : {A : Type 0} {e f : Refused} → ◌≡◌ {A = Result A Refused} (Err e) (Err f) → (e.refusal ≡ f.refusal) × (e.place ≡ f.place)
same_parts h = let k : _ ≡ _ = cc in (ap (λ (u : Refused). u.refusal) k, ap (λ (u : Refused). u.place) k)

pub same_refused : {A : Type 0} {r q : Refusal} {p s : ℕ} → r ≡ q → p ≡ s → ◌≡◌ {A = Result A Refused} (Err (refused_at r p)) (Err (refused_at q s))
same_refused {A} {r} {q} {p} {s} e f = ap (λ x. Err (refused_at x p)) e ∙ ap (λ y. Err (refused_at q y)) f
