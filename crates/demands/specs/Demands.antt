-- The customer's three demands, a record for each and a field for each sentence. They take of a call its equations alone
-- (`QuestionCall`, `CheckCall`, `ReadCall`, `WriteCall`, `TransfersRecords`: what the functions' contracts say under the name `call`), and
-- speak of its result by document 01's numbers: `unpacked r` has number, place and count, and the term that a yes names for a gap
-- (document 02, Point 1). A question with a gap stands for all that fill it: what was said of the fact put is said of its fillings. For a
-- question without a gap this is what it was (specs/Gapless). Of the program they speak by `output_of`, all
-- that it is to print; no contract can say what reaches standard output.
-- Assumes nothing.
use Rattle.std.specs.Prelude.{◌≡◌, ◌↔◌, ◌⊎◌, true, None, Some, List, [], ◌∷◌, ◌++◌, ℕ, ◌+◌, ◌*◌, ◌≤◌, ◌<◌, length, take, drop, T}
use Rattle.columns.specs.Lines.{line, Below, width, numbers_at, laid_out, over, flat, items_from}
use Rattle.facts.specs.declared.Fact.{Fact}
use Rattle.facts.specs.declared.Refusal.{Refusal}
use Rattle.facts.specs.declared.Refusal.TheVariants.{Form}
use Rattle.facts.specs.Results.{Answer, Refused}
use Rattle.facts.specs.declared.Code.{Code}
use Rattle.facts.specs.Facts.{well_formed}
use Rattle.facts.specs.Gaps.{Fills, Askable, AsksSame, filled_by}
use Rattle.facts.specs.Answers.{code_of, number_of, YesWith, LongWith, SaysFollows, SaysNo, AcceptedWith, DoneWith, RefusedWith}
use Rattle.table.specs.Tables.{row_of, table_bytes}
use Rattle.rules.specs.declared.Line.{Line}
use Rattle.rules.specs.Graph.{◌∈◌}
use Rattle.rules.specs.Rules.{Rule}
use Rattle.rules.specs.Derivations.{Derives, table_lines}
use Rattle.rules.specs.Fillings.{DerivableFilling, RefutedFillings, LeastFilling}
use Rattle.acceptance.specs.Check.{DerivationOf}
use Rattle.question.specs.Question.{needed, Question, question, Prints, AnswersBy}
use Rattle.records.specs.Records.{over_records, TransfersRecords}
use Rattle.packing.specs.Packed.{unpacked}
use Rattle.entail.specs.Calls.{QuestionCall, CheckCall, ReadCall, WriteCall}
use Rattle.batch.specs.declared.Query.{Query}
use Rattle.batch.specs.Input.{parts, layout_of}
use Rattle.batch.specs.Output.{code_line, longest, reply_in, output_of}
use Rattle.batch.specs.Whole.{Laid}
use Rattle.demands.specs.Refusals.{SoundTable, SoundQuestion, SoundCheck, TableRefused, RowRefused, SoundRow, FactRefused, AskedRefused, ReadRefused, WriteRefused, QuestionRefused, CheckRefused}

-- ---- a call, and what it said

-- a question that was put, sound or not: the output, document 01's paper, before and after, and the result
pub record Put : Type 0 where
  pub question : Question
  pub entry : List ℕ
  pub exit : List ℕ
  pub result : ℕ
  pub call : QuestionCall question entry exit result

-- its number, place and count, and the term it names
abbrev pub said : Put → Code
said p = unpacked p.result

-- it was sound, over a table with these facts
abbrev pub SoundPut : Put → List Fact → Type 0
SoundPut p facts = SoundQuestion p.question facts (length p.entry)

-- the check says of x, as a derivation of t from the table b, that it is accepted with n table lines
abbrev pub Accepts : List ℕ → Fact → List ℕ → ℕ → Type 0
Accepts b t x n = (r : ℕ) → CheckCall b t x r → AcceptedWith (unpacked r) n

-- all facts of part stand in the facts
abbrev pub Within : List Fact → List Fact → Type 0
Within part facts = (f : Fact) → f ∈ part → f ∈ facts

-- ---- what the program prints

-- the line with number, place and count
abbrev pub heading : Code → List ℕ
heading c = line (c.number ∷ c.place ∷ c.count ∷ [])

-- behind a yes with f, which names x, stands the derivation that the call printed: of the triple with x in its gap, in order, of 2 f - 1
-- lines, and accepted by the check with f
pub record Shown (p : Put) (f x : ℕ) (derivation : List ℕ) : Type 0 where
  pub yes : YesWith (said p) f x
  pub facts : List Fact
  pub table : SoundTable p.question.table facts
  pub output : p.exit ≡ over derivation p.entry
  pub prints : Prints facts (filled_by p.question.fact x) f derivation
  pub accepted : Accepts p.question.table (filled_by p.question.fact x) derivation f

-- the reply to a question about a table: what a call of the question gives that has output enough for every limit
pub record Reply (table : List ℕ) (q : Query) (bytes : List ℕ) : Type 0 where
  pub put : Put
  pub same-question : put.question ≡ question table q.fact q.limit
  pub room : needed 1024 ≤ length put.entry
  -- first its number, place and count; then the derivation behind a yes, and behind anything else nothing
  pub derivation : List ℕ
  pub is : bytes ≡ heading (said put) ++ derivation
  pub behind : ((f : ℕ) × (x : ℕ) × Shown put f x derivation) ⊎ (((said put).number ≡ 90 → ⊥) × (derivation ≡ []))

-- the replies to some questions, one behind the other
pub data Replies (table : List ℕ) : List Query → List ℕ → Type 0 where
  none : Replies table [] []
  more : {q : Query} {qs : List Query} {first rest : List ℕ} → Reply table q first → Replies table qs rest → Replies table (q ∷ qs) (first ++ rest)

-- ---- demand 1

-- "A panel that hands over a torn table, an impossible question, a false derivation or short memory gets the refusal number laid down for it
-- and finds its memory unchanged. Every call ends." (That every call ends is part of each function's proof.)
pub record Demand-1 : Type 1 where
  -- the refusal laid down, with its place, and no other: the question
  pub question-refused : (p : Put) (r : Refusal) (place : ℕ) → RefusedWith (said p) r place ↔ QuestionRefused p.question (length p.entry) r place
  pub question-unchanged : (p : Put) (r : Refusal) (place : ℕ) → RefusedWith (said p) r place → p.exit ≡ p.entry
  -- the check, to which no memory is lent for writing
  pub check-refused : {b : List ℕ} {t : Fact} {x : List ℕ} {n : ℕ} → CheckCall b t x n → (r : Refusal) (place : ℕ) → RefusedWith (unpacked n) r place ↔ CheckRefused b t x r place
  -- reading into three numbers a fact
  pub read-refused : {b entry exit : List ℕ} {n : ℕ} → ReadCall b entry exit n → (r : Refusal) (place : ℕ) → RefusedWith (unpacked n) r place ↔ ReadRefused 3 b (length entry) r place
  pub read-unchanged : {b entry exit : List ℕ} {n : ℕ} → ReadCall b entry exit n → (r : Refusal) (place : ℕ) → RefusedWith (unpacked n) r place → exit ≡ entry
  -- reading into a record a fact
  pub facts-refused : {b : List ℕ} {entry exit : List Fact} {a : Answer} → TransfersRecords b entry exit a → (r : Refusal) (place : ℕ)
      → RefusedWith (code_of a) r place ↔ ReadRefused 1 b (length entry) r place
  pub facts-unchanged : {b : List ℕ} {entry exit : List Fact} {a : Answer} → TransfersRecords b entry exit a → (r : Refusal) (place : ℕ) → RefusedWith (code_of a) r place → exit ≡ entry
  -- writing
  pub write-refused : {row entry exit : List ℕ} {n : ℕ} → WriteCall row entry exit n → (r : Refusal) (place : ℕ) → RefusedWith (unpacked n) r place ↔ WriteRefused row (length entry) r place
  pub write-unchanged : {row entry exit : List ℕ} {n : ℕ} → WriteCall row entry exit n → (r : Refusal) (place : ℕ) → RefusedWith (unpacked n) r place → exit ≡ entry
  -- the program: an input that is not laid out as document 01 writes it down gets one line, 9
  pub program-torn : (b : List ℕ) → ((table : List ℕ) (qs : List Query) → Laid b table qs → ⊥) → output_of b ≡ line (number_of Form ∷ 0 ∷ 0 ∷ [])
  -- what "laid out" means in all of these: k fields and byte 10 are laid out exactly where they are the line of k numbers of at most five
  -- digits, and those are the numbers that they say
  pub layout : (k : ℕ) (b : List ℕ) (at : ℕ) → at + width k ≤ length b
      → laid_out k b at ≡ true ↔ ((ns : List ℕ) × (length ns ≡ k) × Below ns × (drop at b ≡ line ns ++ drop (at + width k) b) × (numbers_at k b at ≡ ns))

-- ---- demand 2

pub record Demand-2 : Type 1 where
  -- sound is what no refusal is laid down for: a table, a row, a fact put to the check, a triple asked; a whole question; a whole check
  pub table-sound : (b : List ℕ) → ((facts : List Fact) × SoundTable b facts) ↔ ((r : Refusal) (place : ℕ) → TableRefused b r place → ⊥)
  pub row-sound : (row : List ℕ) → ((facts : List Fact) × SoundRow row facts) ↔ ((r : Refusal) (place : ℕ) → RowRefused row r place → ⊥)
  pub fact-sound : (t : Fact) → T (well_formed t) ↔ ((r : Refusal) → FactRefused t r → ⊥)
  pub asked-sound : (t : Fact) → Askable t ↔ ((r : Refusal) → AskedRefused t r → ⊥)
  pub question-sound : (q : Question) (m : ℕ) → ((facts : List Fact) × SoundQuestion q facts m) ↔ ((r : Refusal) (place : ℕ) → QuestionRefused q m r place → ⊥)
  pub check_sound : (b : List ℕ) (t : Fact) (x : List ℕ) → ((facts : List Fact) × (n : ℕ) × SoundCheck b facts t x n) ↔ ((r : Refusal) (place : ℕ) → CheckRefused b t x r place → ⊥)
  -- "With a sound table, fact, allowance and paper an answer always comes."
  pub answered : (p : Put) (facts : List Fact) → SoundPut p facts → ((f : ℕ) × SaysFollows (said p) f) ⊎ SaysNo (said p)
  -- "Yes or "long" comes when some finite derivation by the published rules as our papers list them, from the table's facts, ends in the fact
  -- put, and only then;" in one that fills it
  pub follows : (p : Put) (facts : List Fact) → SoundPut p facts → ((f : ℕ) × SaysFollows (said p) f) ↔ DerivableFilling Rule facts p.question.fact
  -- "no when some set of facts closed under the rules holds the table and lacks that fact, and only then." "a set that lacks them all"
  pub refuted : (p : Put) (facts : List Fact) → SoundPut p facts → SaysNo (said p) ↔ RefutedFillings Rule facts p.question.fact
  -- "The check accepts exactly the derivations of at most 2,047 lines."
  pub checked : {b : List ℕ} {t : Fact} {x : List ℕ} {n : ℕ} → CheckCall b t x n → (facts : List Fact) → SoundTable b facts → T (well_formed t)
      → (c : ℕ) → AcceptedWith (unpacked n) c ↔ DerivationOf facts t x c
  -- reading and writing that is done gives 0 and the number of facts, and fills the front of the lent memory
  pub read_done : {b entry exit : List ℕ} {n : ℕ} {facts : List Fact} → ReadCall b entry exit n → SoundTable b facts → 3 * length facts ≤ length entry
      → DoneWith (unpacked n) (length facts) × (exit ≡ over (row_of facts) entry)
  pub facts-done : {b : List ℕ} {entry exit : List Fact} {a : Answer} {facts : List Fact} → TransfersRecords b entry exit a → SoundTable b facts → length facts ≤ length entry
      → DoneWith (code_of a) (length facts) × (exit ≡ over_records facts entry)
  pub write_done : {row entry exit : List ℕ} {n : ℕ} {facts : List Fact} → WriteCall row entry exit n → SoundRow row facts → 16 * length facts ≤ length entry
      → DoneWith (unpacked n) (length facts) × (exit ≡ over (table_bytes facts) entry)
  -- "A table read and written again has the same bytes." Reading fills the front of a row of at least 3 numbers a fact, and those very
  -- numbers are written into memory of at least 16 bytes a fact; each gives 0 and the number of facts
  pub read-written : {b row row' out out' : List ℕ} {n m : ℕ} {facts : List Fact} → SoundTable b facts → 3 * length facts ≤ length row → 16 * length facts ≤ length out
      → ReadCall b row row' n → WriteCall (take (3 * length facts) row') out out' m
      → DoneWith (unpacked n) (length facts) × DoneWith (unpacked m) (length facts) × (row' ≡ over (row_of facts) row) × (out' ≡ over b out)
  -- the same of a row of fact records, whose numbers are written
  pub facts-written : {b out out' : List ℕ} {row row' : List Fact} {a : Answer} {m : ℕ} {facts : List Fact} → SoundTable b facts → length facts ≤ length row
      → 16 * length facts ≤ length out → TransfersRecords b row row' a → WriteCall (row_of (take (length facts) row')) out out' m
      → DoneWith (code_of a) (length facts) × DoneWith (unpacked m) (length facts) × (row' ≡ over_records facts row) × (out' ≡ over b out)

-- ---- demand 3

pub record Demand-3 : Type 1 where
  -- "Whatever sound table, fact and allowance are put, and whatever the paper held before, the count given with yes or "long" is the least,
  -- document 01's f." "The count is the smallest over every filling". It never exceeds the table's facts.
  pub least : (p : Put) (facts : List Fact) → SoundPut p facts → (f : ℕ) → SaysFollows (said p) f → ((u : Fact) × LeastFilling Rule facts p.question.fact f u) × (f ≤ length facts)
  -- "Every derivation of that fact by those rules, of any length, over the table or over any accepted table whose facts all stand in it, has at
  -- least as many table lines." So of each fact that fills it
  pub no-fewer : (p : Put) (facts : List Fact) → SoundPut p facts → (f : ℕ) → SaysFollows (said p) f
      → (part : List Fact) → Within part facts → (u : Fact) → Fills p.question.fact u → (d : List Line) → Derives Rule part d u → f ≤ table_lines d
  -- "So has each that the check accepts over them, by the number it gives."
  pub no-fewer-checked : (p : Put) (facts : List Fact) → SoundPut p facts → (f : ℕ) → SaysFollows (said p) f
      → (b : List ℕ) (part : List Fact) → SoundTable b part → Within part facts → (u : Fact) → Fills p.question.fact u → (x : List ℕ) (n : ℕ) → CheckCall b u x n
      → (c : ℕ) → AcceptedWith (unpacked n) c → f ≤ c
  -- "With every sound allowance, and paper for it, that fact gets yes or "long" with the same count, and yes exactly when the allowance is at
  -- least that count."
  pub same_count : (p : Put) (facts : List Fact) → SoundPut p facts → (f : ℕ) → SaysFollows (said p) f
      → (p' : Put) (limit : ℕ) → p'.question ≡ question p.question.table p.question.fact limit → SoundPut p' facts
      → (f ≤ limit ↔ ((x : ℕ) × YesWith (said p') f x)) × (limit < f ↔ LongWith (said p') f)
  -- number and count are those that the rules define over every filling, and no others
  pub by-rules : (p : Put) (facts : List Fact) → SoundPut p facts → (n c : ℕ)
      → (((said p).number ≡ n) × ((said p).count ≡ c)) ↔ AnswersBy Rule facts p.question.fact p.question.limit n c
  -- "Yes names in its result a term that fills the gap by a shortest derivation": with it in the gap the triple is one that fills it, and
  -- has the least count of all
  pub filling : (p : Put) (facts : List Fact) → SoundPut p facts → (f x : ℕ) → YesWith (said p) f x → LeastFilling Rule facts p.question.fact f (filled_by p.question.fact x)
  -- "Every other answer, and a question without a gap, names 0.", sound or not; so does every answer of check, reading and writing
  pub unnamed : (p : Put) → ((said p).number ≡ 90 → ⊥) ⊎ T (well_formed p.question.fact) → (said p).filling ≡ 0
  pub check-unnamed : {b : List ℕ} {t : Fact} {x : List ℕ} {n : ℕ} → CheckCall b t x n → (unpacked n).filling ≡ 0
  pub read-unnamed : {b entry exit : List ℕ} {n : ℕ} → ReadCall b entry exit n → (unpacked n).filling ≡ 0
  pub facts-unnamed : {b : List ℕ} {entry exit : List Fact} {a : Answer} → TransfersRecords b entry exit a → (code_of a).filling ≡ 0
  pub write-unnamed : {row entry exit : List ℕ} {n : ℕ} → WriteCall row entry exit n → (unpacked n).filling ≡ 0
  -- which blank node stands for the gap plays no part: questions that ask the same get the same result and the same output
  pub any-blank : (p p' : Put) → p'.question.table ≡ p.question.table → p'.question.limit ≡ p.question.limit → p'.entry ≡ p.entry
      → AsksSame p.question.fact p'.question.fact → (p'.result ≡ p.result) × (p'.exit ≡ p.exit)
  -- "With each yes the box prints a derivation with exactly that many table lines, of the length and in the order laid down in document 01, and
  -- the check accepts it for that table and fact, with that count." "the derivation printed is that of the filling named"
  pub printed : (p : Put) (facts : List Fact) → SoundPut p facts → (f x : ℕ) → YesWith (said p) f x
      → (d : List ℕ) × (p.exit ≡ over d p.entry) × Prints facts (filled_by p.question.fact x) f d
      × Accepts p.question.table (filled_by p.question.fact x) d f
  -- "Where it says no, no derivation of the fact exists and the check accepts none, over the table or over any accepted one whose facts all
  -- stand in it." "No means that no filling follows"
  pub none : (p : Put) (facts : List Fact) → SoundPut p facts → SaysNo (said p) → (part : List Fact) → Within part facts → (u : Fact) → Fills p.question.fact u
      → ((d : List Line) → Derives Rule part d u → ⊥)
      × ((b : List ℕ) → SoundTable b part → (x : List ℕ) (n : ℕ) → CheckCall b u x n → (c : ℕ) → AcceptedWith (unpacked n) c → ⊥)
  -- "91 and 92 write nothing."
  pub unwritten : (p : Put) (f : ℕ) → LongWith (said p) f ⊎ SaysNo (said p) → p.exit ≡ p.entry
  -- what the program is to print for an input that is laid out: the reply to each question, in order, and nothing else
  pub program : (b table : List ℕ) (qs : List Query) → Laid b table qs → Replies table qs (output_of b)
  -- it is put together of what the contracts of `input::layout`, `replies::reply` and `replies::refusal` speak of
  pub pieces : (b : List ℕ) (size n m : ℕ) → layout_of b ≡ Some (parts size n) → longest ≤ m → output_of b ≡ flat (λ k. reply_in b size k m) (items_from (λ k. k) 0 n)
  pub torn-piece : (b : List ℕ) → layout_of b ≡ None → output_of b ≡ code_line (Refused Form 0)
