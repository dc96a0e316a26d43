-- The three demands hold.
-- Assumes nothing.
use mathlib.Core.Path.{◌≡◌, refl, sym, ap, ◌∙◌}
use mathlib.Core.Logic.{◌↔◌, ◌⊎◌, inl, inr, ⊎_elim}
use mathlib.Core.Option.{Option, none, some}
use mathlib.Core.List.{List}
use Prim.Native.Nat.{ℕ, ◌*◌, ◌≤◌, ◌<◌}
use native.Mathlib.Omega.{arith}
use lib.ListN.{length, take}
use lib.Seq.{take_at}
use lib.Dec.{T, leb}
use borrow.Author.Tests.{le-leb}
use Rattle.columns.specs.Lines.{over}
use Rattle.facts.specs.declared.Fact.{Fact}
use Rattle.facts.specs.declared.Refusal.{Refusal}
use Rattle.facts.specs.Results.{Answer, No, Long, Refused}
use Rattle.facts.specs.declared.Code.{Code}
use Rattle.facts.specs.Facts.{well_formed}
use Rattle.facts.specs.Gaps.{Fills, AsksSame}
use Rattle.facts.specs.Answers.{code_of, YesWith, LongWith, SaysFollows, SaysNo, AcceptedWith, DoneWith, RefusedWith}
use Rattle.facts.proofs.Terms.{by_cases}
use Rattle.facts.proofs.Codes.{told-yes, told-long, told-no, told-refused}
use Rattle.table.specs.Tables.{row_of, table_bytes, table_of, table_of_row, accepted}
use Rattle.table.proofs.Rows.{row-length, bytes-length, settle-done}
use Rattle.records.specs.Records.{over_records, settled_records, filled_records, TransfersRecords}
use Rattle.rules.specs.declared.Line.{Line}
use Rattle.rules.specs.Graph.{◌∈◌}
use Rattle.rules.specs.Rules.{Rule}
use Rattle.rules.specs.Derivations.{Derives, table_lines}
use Rattle.rules.specs.Fillings.{DerivableFilling, RefutedFillings}
use Rattle.rules.specs.Paths.{fewest}
use Rattle.rules.proofs.Paths.{no-fewer}
use Rattle.rules.proofs.Fewest.{fewest-least, fewest-none, fewest-refuted, least-part, path-derives}
use Rattle.acceptance.specs.Check.{DerivationOf}
use Rattle.question.specs.Question.{printed_for, filling_for, answer_by, answer_of, question_answer, written, output_after, Question, question, Meaning}
use Rattle.question.proofs.Answered.{accepted-formed, yes-fewest, long-fewest, no-fewest, answer-unnamed, same_count}
use Rattle.question.proofs.Alike.{answer-same, output-same}
use Rattle.question.proofs.ByRules.{answers_by}
use Rattle.packing.specs.Packed.{packed, unpacked}
use Rattle.entail.specs.Calls.{CheckCall, ReadCall, WriteCall}
use Rattle.entail.proofs.Unpacked.{question-unpacked, check-unpacked, read-unpacked, write-unpacked, call-means, call-judges}
use Rattle.batch.proofs.Whole.{replies-output}
use Rattle.confirms.proofs.Confirms.{prints-derivation}
use Rattle.demands.specs.Refusals.{SoundTable, SoundRow}
use Rattle.demands.specs.Demands.{Put, said, SoundPut, Within, Demand-1, Demand-2, Demand-3}
use Rattle.demands.proofs.Refusals.{sound-table, sound-row, read-refused, facts-refused, write-refused, question-refused, check-refused, memory-unchanged, records-unchanged}
use Rattle.demands.proofs.Sound.{sound-is, sound-answer, table-sound, row-sound, fact-sound, asked-sound, question-sound, check_sound, check-names, settled-names, records-names}
use Rattle.demands.proofs.Program.{torn, torn-piece, laid-line, program-replies}

-- ---- demand 1

-- numbers that an answer has say exactly where it is refused
pub by-numbers : {P : Type 0} {c : Code} (a : Answer) (r : Refusal) (place : ℕ) → c ≡ code_of a → a ≡ Refused r place ↔ P → RefusedWith c r place ↔ P
by-numbers a r place is q = (λ e. q.0 (told-refused (sym is ∙ e)), λ h. is ∙ ap code_of (q.1 h))

-- what a question that was put was answered
abbrev answer : Put → Answer
answer p = question_answer p.question.table p.question.fact p.question.limit (length p.entry)

said-is : (p : Put) → said p ≡ code_of (answer p)
said-is p = question-unpacked p.call

-- an answer that writes nothing leaves the output as it was
left : (p : Put) (a : Answer) → ((bytes old : List ℕ) → written a bytes old ≡ old) → answer p ≡ a → p.exit ≡ p.entry
left p a w e = p.call.output ∙ unfold output_after in (rw e (w _ _))

question-left : (p : Put) (r : Refusal) (place : ℕ) → RefusedWith (said p) r place → p.exit ≡ p.entry
question-left p r place e = left p (Refused r place) (λ bytes old. unfold written in refl) (told-refused (sym (said-is p) ∙ e))

pub demand-1 : Demand-1
demand-1 = record {
  question-refused = λ p r place. by-numbers (answer p) r place (said-is p) (question-refused p.question (length p.entry) r place);
  question-unchanged = question-left;
  check-refused = λ {b} {t} {x} g r place. by-numbers _ r place (check-unpacked g) (check-refused b t x r place);
  read-refused = λ {b} {entry} g r place. by-numbers _ r place (read-unpacked g) (read-refused b (length entry) r place);
  read-unchanged = λ {b} {entry} g r place e. g.row ∙ memory-unchanged row_of (table_of b) entry r place (told-refused (sym (read-unpacked g) ∙ e));
  facts-refused = λ {b} {entry} g r place. by-numbers _ r place (ap code_of g.answer) (facts-refused b (length entry) r place);
  facts-unchanged = λ {b} {entry} g r place e. g.memory ∙ records-unchanged (table_of b) entry r place (told-refused (sym (ap code_of g.answer) ∙ e));
  write-refused = λ {row} {entry} g r place. by-numbers _ r place (write-unpacked g) (write-refused row (length entry) r place);
  write-unchanged = λ {row} {entry} g r place e. g.bytes ∙ memory-unchanged table_bytes (table_of_row row) entry r place (told-refused (sym (write-unpacked g) ∙ e));
  program-torn = torn;
  layout = laid-line;
}

-- ---- a sound question

module _ (p : Put) (facts : List Fact) (s : SoundPut p facts) where
  abbrev t : Fact
  t = p.question.fact

  abbrev limit : ℕ
  limit = p.question.limit

  abbrev lent : ℕ
  lent = length p.entry

  is : table_of p.question.table ≡ accepted facts
  is = sound-is p.question facts lent s

  means : Meaning p.question p.entry p.exit (said p) facts
  means = (call-means p.call).sound facts s.table.sound s.table.bytes

  formed : (f : Fact) → f ∈ facts → T (well_formed f)
  formed = accepted-formed p.question.table t facts is

  -- the answer is no, or yes or long with the fewest
  by-fewest : (o : Option ℕ) → fewest facts t ≡ o → said p ≡ code_of (answer_by limit o (filling_for facts t))
  by-fewest o e =
      let a : answer p ≡ answer_by limit o (filling_for facts t) = sound-answer p.question facts lent s ∙ unfold answer_of in (ap (λ (y : Option ℕ). answer_by limit y (filling_for facts t)) e) in
      said-is p ∙ ap code_of a

  found : ((f : ℕ) × (fewest facts t ≡ some f) × SaysFollows (said p) f) ⊎ ((fewest facts t ≡ none) × SaysNo (said p))
  found = go (fewest facts t) refl
    where
      go : (o : Option ℕ) → fewest facts t ≡ o → ((f : ℕ) × (fewest facts t ≡ some f) × SaysFollows (said p) f) ⊎ ((fewest facts t ≡ none) × SaysNo (said p))
      go none e = inr (e, by-fewest none e ∙ unfold answer_by in refl)
      go (some f) e =
          by_cases (leb f limit)
          (λ y. inl (f, e, inl (filling_for facts t, by-fewest (some f) e ∙ unfold answer_by in (rw y))))
          (λ y. inl (f, e, inr (by-fewest (some f) e ∙ unfold answer_by in (rw y))))

  -- yes or long carries the fewest
  follows-fewest : (f : ℕ) → SaysFollows (said p) f → fewest facts t ≡ some f
  follows-fewest f =
      ⊎_elim (λ (y : (x : ℕ) × YesWith (said p) f x). (yes-fewest p.question.table t facts is limit lent f y.0 (told-yes (sym (said-is p) ∙ y.1))).0)
      (λ (y : LongWith (said p) f). (long-fewest p.question.table t facts is limit lent f (told-long (sym (said-is p) ∙ y))).0)

  no_none : SaysNo (said p) → fewest facts t ≡ none
  no_none e = (no-fewest p.question.table t facts is limit lent (told-no (sym (said-is p) ∙ e))).0

  answered : ((f : ℕ) × SaysFollows (said p) f) ⊎ SaysNo (said p)
  answered =
      ⊎_elim (λ (h : (f : ℕ) × (fewest facts t ≡ some f) × SaysFollows (said p) f). inl (h.0, h.2))
      (λ (h : (fewest facts t ≡ none) × SaysNo (said p)). inr h.1) found

  follows-derivable : ((f : ℕ) × SaysFollows (said p) f) ↔ DerivableFilling Rule facts t
  follows-derivable = (
    λ h. let l = (fewest-least facts formed t s.fact h.0).0 (follows-fewest h.0 h.1) in (l.0, l.1.fills, (l.1.least.derivation, l.1.least.derives)),
    λ d. ⊎_elim (λ (h : (f : ℕ) × (fewest facts t ≡ some f) × SaysFollows (said p) f). (h.0, h.2))
        (λ (h : (fewest facts t ≡ none) × SaysNo (said p)). absurd ((fewest-none facts formed t s.fact).0 h.0 d)) found,
  )

  no-refuted : SaysNo (said p) ↔ RefutedFillings Rule facts t
  no-refuted = (
    λ e. (fewest-refuted facts formed t s.fact).0 (no_none e),
    λ r. ⊎_elim
        (λ (h : (f : ℕ) × (fewest facts t ≡ some f) × SaysFollows (said p) f).
        let z : none ≡ some h.0 = sym ((fewest-refuted facts formed t s.fact).1 r) ∙ h.1 in let k : ◌≡◌ {A = ℕ} 0 1 = cc in absurd (omega arith))
        (λ (h : (fewest facts t ≡ none) × SaysNo (said p)). h.1) found,
  )

  -- ---- the count, and what is printed

  fewer-none : (f : ℕ) → SaysFollows (said p) f → (part : List Fact) → Within part facts → (u : Fact) → Fills t u → (d : List Line) → Derives Rule part d u → f ≤ table_lines d
  fewer-none f h part in-facts = let l = (means.least f h).0 in least-part facts formed t s.fact f l.0 l.1 part in-facts

  derives-none : SaysNo (said p) → (part : List Fact) → Within part facts → (u : Fact) → Fills t u → (d : List Line) → Derives Rule part d u → ⊥
  derives-none e part in-facts u f d h =
      let w = no-fewer {table = facts} in-facts h in
      let made = path-derives facts formed u w.0 in
      (fewest-none facts formed t s.fact).0 (no_none e) (u, f, (made.0, made.1))

-- what the check accepts over a sound table, for a well-formed fact
judges : {b : List ℕ} {t : Fact} {x : List ℕ} {n : ℕ} → CheckCall b t x n → (facts : List Fact) → SoundTable b facts → T (well_formed t) → (c : ℕ) → AcceptedWith (unpacked n) c ↔ DerivationOf facts t x c
judges g facts s w = call-judges g facts s.sound s.bytes w

-- the same question under another limit
other-limit : (p : Put) (facts : List Fact) → SoundPut p facts → (f : ℕ) → SaysFollows (said p) f → (p' : Put) (limit : ℕ) → p'.question ≡ question p.question.table p.question.fact limit
    → SoundPut p' facts → (f ≤ limit ↔ ((x : ℕ) × YesWith (said p') f x)) × (limit < f ↔ LongWith (said p') f)
other-limit p facts s f h p' limit e s' =
    let t = p.question.fact in
    let z : fewest facts t ≡ some f = follows-fewest p facts s f h in
    let z' : fewest facts p'.question.fact ≡ some f = rw e z in
    let k : p'.question.limit ≡ limit = ap (λ (q : Question). q.limit) e in
    let c = same_count p'.question.table p'.question.fact facts (is p' facts s') limit f z' in
    let said-by : said p' ≡ code_of (answer_of facts p'.question.fact limit) =
    said-is p' ∙ ap code_of (sound-answer p'.question facts (length p'.entry) s') ∙ ap (λ (l : ℕ). code_of (answer_of facts p'.question.fact l)) k in (
      (
        λ l. (filling_for facts p'.question.fact, said-by ∙ ap code_of (c.0 l)),
        λ y. omega (arith, k, (yes-fewest p'.question.table p'.question.fact facts (is p' facts s') p'.question.limit (length p'.entry) f y.0 (told-yes (sym (said-is p') ∙ y.1))).1),
      ),
      (λ l. said-by ∙ ap code_of (c.1 l), λ y. omega (arith, k, (long-fewest p'.question.table p'.question.fact facts (is p' facts s') p'.question.limit (length p'.entry) f (told-long (sym (said-is p') ∙ y))).1)),
    )

-- ---- the term named

put-unnamed : (p : Put) → ((said p).number ≡ 90 → ⊥) ⊎ T (well_formed p.question.fact) → (said p).filling ≡ 0
put-unnamed p = rw (said-is p) (answer-unnamed p.question.table p.question.fact p.question.limit (length p.entry) (answer p) refl)

-- ---- reading and writing

read_done : {b entry exit : List ℕ} {n : ℕ} {facts : List Fact} → ReadCall b entry exit n → SoundTable b facts → 3 * length facts ≤ length entry
    → DoneWith (unpacked n) (length facts) × (exit ≡ over (row_of facts) entry)
read_done {b} {entry} {exit} {n} {facts} g s room =
    let d = settle-done row_of (table_of b) entry facts ((sound-table b facts).1 s) (rw row-length room) in
    (read-unpacked g ∙ ap code_of d.0, g.row ∙ d.1)

facts-done : {b : List ℕ} {entry exit : List Fact} {a : Answer} {facts : List Fact} → TransfersRecords b entry exit a → SoundTable b facts → length facts ≤ length entry
    → DoneWith (code_of a) (length facts) × (exit ≡ over_records facts entry)
unfolding settled_records filled_records
facts-done {b} {entry} {exit} {a} {facts} g s room =
    let e = (sound-table b facts).1 s in
    let fits = le-leb (length facts) (length entry) room in
    (ap code_of g.answer ∙ rw (e, fits), g.memory ∙ rw (e, fits))

write_done : {row entry exit : List ℕ} {n : ℕ} {facts : List Fact} → WriteCall row entry exit n → SoundRow row facts → 16 * length facts ≤ length entry
    → DoneWith (unpacked n) (length facts) × (exit ≡ over (table_bytes facts) entry)
write_done {row} {entry} {exit} {n} {facts} g s room =
    let d = settle-done table_bytes (table_of_row row) entry facts ((sound-row row facts).1 s) (rw bytes-length room) in
    (write-unpacked g ∙ ap code_of d.0, g.bytes ∙ d.1)

-- the numbers of a sound table's facts, written where there is room
written_back : {b out out' : List ℕ} {m : ℕ} {facts : List Fact} → SoundTable b facts → 16 * length facts ≤ length out → WriteCall (row_of facts) out out' m
    → DoneWith (unpacked m) (length facts) × (out' ≡ over b out)
written_back {b} {out} {out'} {m} {facts} s room g =
    let w = write_done g (record { numbers = refl; sound = s.sound }) room in
    (w.0, w.1 ∙ rw s.bytes)

read_back : {b row row' out out' : List ℕ} {n m : ℕ} {facts : List Fact} → SoundTable b facts → 3 * length facts ≤ length row → 16 * length facts ≤ length out
    → ReadCall b row row' n → WriteCall (take (3 * length facts) row') out out' m
    → DoneWith (unpacked n) (length facts) × DoneWith (unpacked m) (length facts) × (row' ≡ over (row_of facts) row) × (out' ≡ over b out)
read_back {b} {row} {row'} {out} {out'} {n} {m} {facts} s room space g h =
    let r = read_done g s room in
    let front : take (3 * length facts) row' ≡ row_of facts = rw r.1 (take_at (row_of facts) _ (3 * length facts) (row-length facts)) in
    let w = written_back s space (rw front at h) in
    (r.0, w.0, r.1, w.1)

facts-back : {b out out' : List ℕ} {row row' : List Fact} {a : Answer} {m : ℕ} {facts : List Fact} → SoundTable b facts → length facts ≤ length row → 16 * length facts ≤ length out
    → TransfersRecords b row row' a → WriteCall (row_of (take (length facts) row')) out out' m
    → DoneWith (code_of a) (length facts) × DoneWith (unpacked m) (length facts) × (row' ≡ over_records facts row) × (out' ≡ over b out)
facts-back {b} {out} {out'} {row} {row'} {a} {m} {facts} s room space g h =
    let r = facts-done g s room in
    let front : take (length facts) row' ≡ facts = rw r.1 (take_at facts _ (length facts) refl) in
    let w = written_back s space (rw front at h) in
    (r.0, w.0, r.1, w.1)

pub demand-2 : Demand-2
demand-2 = record {
  table-sound = table-sound;
  row-sound = row-sound;
  fact-sound = fact-sound;
  asked-sound = asked-sound;
  question-sound = question-sound;
  check_sound = check_sound;
  answered = answered;
  follows = follows-derivable;
  refuted = no-refuted;
  checked = judges;
  read_done = read_done;
  facts-done = facts-done;
  write_done = write_done;
  read-written = read_back;
  facts-written = facts-back;
}

-- ---- demand 3

-- questions that ask the same
same_asked : (p p' : Put) → p'.question.table ≡ p.question.table → p'.question.limit ≡ p.question.limit → p'.entry ≡ p.entry → AsksSame p.question.fact p'.question.fact
    → (p'.result ≡ p.result) × (p'.exit ≡ p.exit)
same_asked p p' b l e s =
    let t = p.question.fact in
    let v = p'.question.fact in
    let lent = length p.entry in (
      p'.call.answer ∙ rw (b, l, e) (ap (λ (a : Answer). packed (code_of a)) (sym (answer-same t v s p.question.table p.question.limit lent))) ∙ sym p.call.answer,
      p'.call.output ∙ rw (b, l, e) (sym (output-same t v s p.question.table p.question.limit p.entry)) ∙ sym p.call.output,
    )

pub demand-3 : Demand-3
demand-3 = record {
  least = λ p facts s. (means p facts s).least;
  no-fewer = fewer-none;
  no-fewer-checked = λ p facts s f h b part s' in-facts u fills x n g c e.
      let j = (judges g part s' fills.formed c).0 e in omega (arith, fewer-none p facts s f h part in-facts u fills j.derivation j.derives, j.count);
  same_count = other-limit;
  by-rules = λ p facts s n c. rw (said-is p, sound-answer p.question facts (length p.entry) s)
      (answers_by facts (formed p facts s) p.question.fact s.fact p.question.limit n c);
  filling = λ p facts s. (means p facts s).filling;
  unnamed = put-unnamed;
  any-blank = same_asked;
  check-unnamed = λ {b} {t} {x} g. rw (check-unpacked g) (check-names b t x);
  read-unnamed = λ {b} {entry} g. rw (read-unpacked g) (settled-names row_of (table_of b) (length entry));
  facts-unnamed = λ {b} {entry} g. rw g.answer (records-names (table_of b) (length entry));
  write-unnamed = λ {row} {entry} g. rw (write-unpacked g) (settled-names table_bytes (table_of_row row) (length entry));
  printed = λ p facts s f x e.
      let m = (means p facts s).printed f x e in
      let w = ((means p facts s).filling f x e).fills.formed in
      let few : f ≤ 1024 = omega (arith, m.0, s.limited) in
      (printed_for facts p.question.fact, m.1, m.2, λ r g. (judges g facts s.table w f).1 (prints-derivation few m.2));
  none = λ p facts s e part in-facts u fills. (
    derives-none p facts s e part in-facts u fills,
    λ b s' x n g c h. let j = (judges g part s' fills.formed c).0 h in derives-none p facts s e part in-facts u fills j.derivation j.derives,
  );
  unwritten = λ p f. ⊎_elim (λ (e : LongWith (said p) f). left p (Long f) (λ bytes old. unfold written in refl) (told-long (sym (said-is p) ∙ e)))
      (λ (e : SaysNo (said p)). left p No (λ bytes old. unfold written in refl) (told-no (sym (said-is p) ∙ e)));
  program = program-replies;
  pieces = replies-output;
  torn-piece = torn-piece;
}
