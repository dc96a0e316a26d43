-- Cases that were run, one more behind those before.
-- Assumes nothing.
use Rattle.std.proofs.Common.{◌≡◌, ℕ, ◌-◌, ◌≤◌, List, [], ◌∷◌, ◌++◌, length, take, drop, None, Some, refl, sym, ap, ◌∙◌, append_assoc, append-nil, subst}
use Rattle.std.proofs.Math.Seq.{take-length}
use Rattle.std.proofs.lemmas.List.{length-drop}
use Rattle.std.specs.declared.option.Option.{Option}
use borrow.Author.Tests.{le-leb}
use Rattle.columns.specs.Lines.{width}
use Rattle.case_runner.specs.Cases.{Case, head, next, Begins, Ran}

pub ran-nil : (a : Option (List Case)) → Ran a a []
ran-nil None = tt
ran-nil (Some x) = sym (append-nil x)

pub ran-more : (a b c : Option (List Case)) (bs cs : List Case) → Ran a b bs → Ran b c cs → Ran a c (bs ++ cs)
ran-more None b c bs cs p q = tt
ran-more (Some x) None c bs cs p q = absurd p
ran-more (Some x) (Some y) None bs cs p q = absurd q
ran-more (Some x) (Some y) (Some z) bs cs p q = q ∙ ap (λ l. l ++ cs) p ∙ append_assoc x bs cs

pub begins-more : (k : ℕ) (behind : List ℕ → Option ℕ) (cs : List Case) (c : Case) (s t rest : List ℕ) → Begins k behind cs s t → next k behind t ≡ Some (c, rest) → Begins k behind (cs ++ (c ∷ [])) s rest
begins-more k behind [] c s t rest b e = (rest, ap (next k behind) b ∙ e, refl)
begins-more k behind (x ∷ cs) c s t rest b e = (b.0, b.1, begins-more k behind cs c b.0 t rest b.2 e)

-- what stands from a place on, whole
whole : (w : ℕ) (s : List ℕ) → take (length s - w) (drop w s) ≡ drop w s
whole w s = ap (λ n. take n (drop w s)) (sym (length-drop w s)) ∙ take-length (drop w s)

pub next-is : (k : ℕ) (behind : List ℕ → Option ℕ) (s ns : List ℕ) (n : ℕ) (bs rest : List ℕ) → head k s ≡ Some ns → behind ns ≡ Some n
    → n ≤ length (take (length s - width k) (drop (width k) s)) → bs ≡ take n (take (length s - width k) (drop (width k) s)) → rest ≡ drop n (take (length s - width k) (drop (width k) s))
    → next k behind s ≡ Some ((ns, bs), rest)
next-is k behind s ns n bs rest h b l front back =
    let all = whole (width k) s in
    let within : n ≤ length (drop (width k) s) = subst (λ r. n ≤ length r) all l in
    rw (h, b, le-leb _ _ within, front, back, all)
