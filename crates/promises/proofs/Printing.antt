-- What is promised of printing (specs/Printing) holds: by the laws of `columns`, over what the demands and the import say of the calls.
-- Assumes nothing.
use mathlib.Core.Path.{◌≡◌, refl, sym, ◌∙◌}
use mathlib.Core.Logic.{inl}
use mathlib.Core.List.{List, [], ◌∷◌, ◌++◌, append-nil}
use Prim.Native.Nat.{ℕ, ◌+◌, ◌*◌, ◌≤◌, ◌<◌}
use native.Mathlib.Omega.{arith}
use lib.ListN.{length, get_or, drop}
use lib.Seq.{drop_at}
use Rattle.columns.specs.Lines.{line, over, Below}
use Rattle.columns.specs.Digits.{ShowsLine}
use Rattle.columns.proofs.Lines.{field-length, line-length}
use Rattle.columns.proofs.Digits.{field-shown, shown-field, shown-none, line-there, lines-there, lines-shown}
use Rattle.facts.specs.declared.Fact.{Fact}
use Rattle.facts.specs.Answers.{YesWith}
use Rattle.table.specs.Tables.{TableFacts, terms, table_bytes}
use Rattle.table.proofs.Lists.{formed-at, formed-in}
use Rattle.table.proofs.Tables.{terms-below}
use Rattle.rules.specs.declared.Line.{Line}
use Rattle.derivation.specs.Bytes.{line_numbers, derivation_bytes}
use Rattle.acceptance.proofs.Accepts.{derivation-below}
use Rattle.question.specs.Question.{Prints}
use Rattle.entail.proofs.Unpacked.{question-unpacked, call-means}
use Rattle.batch.specs.declared.Query.{Query}
use Rattle.batch.proofs.Codes.{code_below}
use Rattle.demands.specs.Refusals.{SoundTable}
use Rattle.demands.specs.Demands.{Put, said, Reply}
use Rattle.demands.proofs.Demands.{demand-1, demand-2}
use Rattle.promises.specs.Printing.{Printing}
use Rattle.promises.proofs.Import.{import}

-- a table over the front of what was there
table-shown : (facts : List Fact) (old : List ℕ) → TableFacts facts → (i : ℕ) (z : Fact) → i < length facts → ShowsLine (over (table_bytes facts) old) (16 * i) (terms (get_or facts i z))
table-shown facts old sound i z h = lines-shown 3 terms (λ f. refl) facts old i z h (terms-below (get_or facts i z) (formed-at facts i z sound.formed h))

-- a derivation that a call printed has lines of numbers of at most five digits
module _ (p : Put) (facts : List Fact) (sound : SoundTable p.question.table facts) {t : Fact} {f : ℕ} {d : List ℕ} (prints : Prints facts t f d) (few : f ≤ length facts) where
  prints-below : (i : ℕ) (z : Line) → i < length prints.derivation → Below (line_numbers (get_or prints.derivation i z))
  prints-below i z h =
      derivation-below (λ g m. formed-in facts g sound.sound.formed m) (omega (arith, prints.lines, sound.sound.few)) prints.derives i z h

  -- it stands in the front of the output
  over-shown : p.exit ≡ over d p.entry → (i : ℕ) (z : Line) → i < length prints.derivation → ShowsLine p.exit (31 * i) (line_numbers (get_or prints.derivation i z))
  over-shown e i z h = rw (e, prints.bytes) (lines-shown 6 line_numbers (λ l. refl) prints.derivation p.entry i z h (prints-below i z h))

  -- and behind a line of three numbers
  behind-shown : (bytes ns : List ℕ) → length ns ≡ 3 → bytes ≡ line ns ++ d → (i : ℕ) (z : Line) → i < length prints.derivation
      → ShowsLine bytes (16 + 31 * i) (line_numbers (get_or prints.derivation i z))
  behind-shown bytes ns three e i z h =
      let wide : length (line ns) ≡ 16 = line-length ns ∙ rw three in
      let there : drop 16 (line ns ++ derivation_bytes prints.derivation) ≡ derivation_bytes prints.derivation ++ [] = drop_at (line ns) (derivation_bytes prints.derivation) 16 wide ∙ sym (append-nil _) in
      rw (e, prints.bytes)
      (lines-there 6 line_numbers (λ l. refl) prints.derivation (line ns ++ derivation_bytes prints.derivation) [] 16 there i z h (prints-below i z h))

-- a yes carries no more than the table's facts
yes-few : (p : Put) (facts : List Fact) → SoundTable p.question.table facts → (f x : ℕ) → YesWith (said p) f x → f ≤ length facts
yes-few p facts sound f x y = (((call-means p.call).sound facts sound.sound sound.bytes).least f (inl (x, y))).1

-- ---- the program

heading-shown : {table : List ℕ} {q : Query} {bytes : List ℕ} (r : Reply table q bytes) → ShowsLine bytes 0 ((said r.put).number ∷ (said r.put).place ∷ (said r.put).count ∷ [])
heading-shown {bytes = bytes} r =
    let p = r.put in
    let asked = p.question in
    let ns = (said p).number ∷ (said p).place ∷ (said p).count ∷ [] in
    let below : Below ns = rw (question-unpacked p.call) (code_below asked.table asked.fact asked.limit (length p.entry) _ r.room refl) in
    line-there ns bytes r.derivation 0 below r.is

pub printing : Printing
printing = record {
  field = λ n h. (field-length n, field-shown n);
  only = shown-field;
  whole = shown-none;
  line = λ ns old b. line-there ns (over (line ns) old) (drop (length (line ns)) old) 0 b refl;
  written = λ {facts = facts} g s room i z h. rw (demand-2.write_done g s room).1 (table-shown facts _ s.sound i z h);
  imported = λ {facts = facts} g s room i z h. rw (import.done g s room).1 (table-shown facts _ s.sound i z h);
  derivation = λ p facts s f x y d e prints. over-shown p facts s.table prints (yes-few p facts s.table f x y) e;
  heading = heading-shown;
  behind = λ {bytes = bytes} r f x s. behind-shown r.put s.facts s.table s.prints (yes-few r.put s.facts s.table f x s.yes) bytes _ refl r.is;
  torn = λ b h. rw (demand-1.program-torn b h) (line-there _ _ [] 0 (omega arith, (omega arith, (omega arith, tt))) (sym (append-nil _)));
}
