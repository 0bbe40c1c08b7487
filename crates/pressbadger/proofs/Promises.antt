-- What a host is promised (specs/Promises), of every result that a contract allows: demand by demand, call by call. The content stands in the
-- crates beneath; here it is said of what is returned and left. Assumes nothing.
use mathlib.Core.Path.{◌≡◌, refl, sym, ap, ◌∙◌, subst}
use mathlib.Core.Logic.{◌↔◌, ◌⊎◌, inl, inr}
use mathlib.Core.Bool.{true, false}
use mathlib.Core.List.{List, [], ◌∷◌, map}
use mathlib.Core.List.Memᴰ
use Prim.Native.Nat.{ℕ, zero, suc, ◌+◌, ◌*◌, ◌≤◌, ◌<◌}
use native.Mathlib.Nat.{mul-le-mul}
use native.Mathlib.Omega.{arith}
use lib.ListN.{length, take, drop, length-map}
use Rattle.std.specs.Prelude.{Ok, Err}
use Rattle.verdict.specs.Tests.{need}
use Rattle.verdict.specs.Lines.{Applies}
use Rattle.verdict.proofs.Numbered.{all_from, among_need, among_from}
use Rattle.lent.specs.Lent.{lay}
use Rattle.lent.proofs.Laying.{take_lay, drop_lay}
use Rattle.sets.specs.Sets.{Good}
use Rattle.pattern.specs.Pattern.{Pattern, pattern_of, Valid}
use Rattle.pattern.specs.Language.{accepts, Over, SameLanguage}
use Rattle.pattern.specs.Inclusion.{LanguageWithin}
use Rattle.pattern.specs.Judge as Judge
use Rattle.pattern.specs.Judge.{judged}
use Rattle.pattern.specs.Judge.{Judged}
use Rattle.pattern.proofs.Inclusion.{union_within}
use Rattle.pattern.proofs.Judging.{judge_honest, judge_answered, judge_lines_lem, judge_among}
use Rattle.walk.specs.Walk.{Question, Outcome, kept_of, word_of}
use Rattle.walk.specs.Walk.Outcome.{Same, Different, Full}
use Rattle.walk.specs.Columns.{Field, value, Columns, column, columns_of, firsts}
use Rattle.walk.specs.Meaning.{Proper, Covers}
use Rattle.walk.specs.Inclusion.{joined}
use Rattle.walk.proofs.Columns.{fit_at, fit_by}
use Rattle.comparison.specs.Answers as Comparison
use Rattle.std.specs.Prelude.{Result, Ok, Err}
use Rattle.verdict.specs.declared.Refusal.{Refusal}
use Rattle.verdict.specs.declared.Fault.{Fault}
use Rattle.comparison.specs.Answers.{Lent, Call, answer_of, values_of, Compared}
use Rattle.comparison.specs.Answers.Compared.{refuses, walks}
use Rattle.comparison.specs.Meaning as OfComparison
use Rattle.comparison.specs.Meaning.{Roomy, SameWritten}
use Rattle.comparison.specs.declared.Answer.{Answer}
use Rattle.comparison.specs.Inclusion as OneWay
use Rattle.comparison.specs.Inclusion.{AnsweredOneWay, answered_one_way, Included}
use Rattle.comparison.specs.InclusionMeaning as OfOneWay
use Rattle.comparison.specs.declared.inclusion.Inclusion.{Inclusion}
use Rattle.comparison.proofs.Asking.{compare_fine, compare_among}
use Rattle.comparison.proofs.Standing.{laid, firsts_laid}
use Rattle.comparison.proofs.CompareHonest.{compare_valid, compare_honest, compare_answers}
use Rattle.comparison.proofs.CompareRoom.{kept_is, compare_more_room, compare_room_enough, compare_never_full}
use Rattle.comparison.proofs.CompareLessRoom.{compare_less_room}
use Rattle.comparison.proofs.Joining.{joined_call, joined_test}
use Rattle.comparison.proofs.WithinHonest.{within_valid, within_honest, within_answers}
use Rattle.comparison.proofs.WithinRoom.{within_more_room, within_room_enough, within_never_full}
use Rattle.evidence.specs.Evidence as Evidence
use Rattle.evidence.specs.Evidence.{Offer, ValidOffer, Checked}
use Rattle.evidence.specs.Meaning as OfEvidence
use Rattle.evidence.specs.Meaning.{Holding}
use Rattle.evidence.specs.declared.Answer as Evidence'
use Rattle.evidence.proofs.CheckHonest.{check_honest, valid_answered}
use Rattle.evidence.proofs.Starting.{no_pairs_valid, no_pairs_hold}
use Rattle.evidence.proofs.Refusing.{check_lines_lem, check_among}
use Rattle.numbers.specs.Numbers.{AreBytes}
use Rattle.patternfile.specs.PatternFile.{file_bytes}
use Rattle.patternfile.specs.Reader as Reader
use Rattle.patternfile.specs.Reader.{with_rows, Reads}
use Rattle.patternfile.specs.Writer as Writer
use Rattle.patternfile.specs.Writer.{Writes}
use Rattle.patternfile.specs.declared.PatternNumbers.{PatternNumbers}
use Rattle.patternfile.proofs.Returned.{read_number, read_honest, write_number, write_honest}
use Rattle.patternfile.proofs.Longest.{file_short}
use Rattle.patternfile.proofs.Places.{padded_there, too_big_there}
use Rattle.patternfile.proofs.RoundTrip.{read_after_write, write_after_read}
use Rattle.expressions.specs.Expressions.{Expr, Takes}
use Rattle.expressions.specs.Texts.{Means}
use Rattle.expressions.specs.Languages.{Speaks, Answered}
use Rattle.expressions.specs.Answers as Texts
use Rattle.expressions.proofs.Faults.{one_meaning}
use Rattle.expressions.proofs.Meaning.{expressions_honest}
use Rattle.expressions.proofs.Room.{rows_enough}
use Rattle.records.specs.declared.PbRecord.{PbRecord}
use Rattle.records.specs.declared.answers.PbCompared.{PbCompared}
use Rattle.records.specs.declared.answers.PbChecked.{PbChecked}
use Rattle.records.specs.Answers.{compare_answer, ComparedLists, inclusion_answer, one_way, as_within, IncludedLists, check_answer, CheckedOffer}
use Rattle.records.specs.Records.{written, columns_in, lent_for, call_on, ComparedRecords, IncludedRecords}
use Rattle.records.specs.Offers.{offer_for}
use Rattle.records.proofs.Agreeing.{column_in, columns_first, firsts_known, pb_compare_by_columns, pb_compare_from_columns, pb_within_by_columns, pb_within_from_columns}
use Rattle.records.proofs.Offering.{compare_same_is_proved}
use Rattle.records.proofs.OneWay.{one_way_high, as_within_lem}
use Rattle.pressbadger.specs.declared.PbJudged.{PbJudged}
use Rattle.pressbadger.specs.declared.files.PbPattern.{PbPattern}
use Rattle.pressbadger.specs.declared.files.PbWritten.{PbWritten}
use Rattle.pressbadger.specs.declared.texts.PbExpressed.{PbExpressed}
use Rattle.pressbadger.specs.Judges.{judge_answer}
use Rattle.pressbadger.specs.Files.{pattern_answer, ReadPattern, written_answer, WrittenPattern}
use Rattle.pressbadger.specs.Texts.{expressed_answer, ExpressedTexts}
use Rattle.pressbadger.specs.Promises.{SAME, DIFFERENT, FULL, PROVED, DONE, WITHIN, NOT_WITHIN, NO_ROOM, OneOf, compare_refusals, check_refusals, judge_refusals, read_refusals, write_refusals, RoomFor, lines_of, ComparedMeans, LeftRecords, LeftLists, WalkedRecords, WalkedLists, SameRecords, LessRoom, WithinMeans, CheckedMeans, JudgedMeans, done_pattern, max_rows, longest_file, PatternMeans, done_written, WrittenMeans, text_refusals, done_expressed, pattern_left, ExpressedMeans, PADDED, TOO_BIG}

-- every refusal is 10 or more, so an answer with a lower number is none
high : (numbers : List ℕ) {w : ℕ} → all_from 10 numbers ≡ true → OneOf numbers w → 10 ≤ w
unfolding need
high numbers {w} e m = among_from 10 e (among_need numbers false w m) refl

-- ---- the comparison, as `comparison` says it

module _ {c : Call} {a : Comparison.Answered} {later : Lent} (k : Compared c a later) where
  -- the answer is a refusal exactly where its number is one of the refusals
  named : OneOf compare_refusals (Comparison.number_of a) ↔ OfComparison.IsRefused a
  named = (to k, fro k)
    where
      to : {a : Comparison.Answered} {later : Lent} → Compared c a later → OneOf compare_refusals (Comparison.number_of a) → OfComparison.IsRefused a
      to (refuses e) m = tt
      to (walks {o} f w) m = absurd (omega (arith, high compare_refusals refl m, compare_valid ((compare_fine c).0 f) (walks f w)))

      fro : {a : Comparison.Answered} {later : Lent} → Compared c a later → OfComparison.IsRefused a → OneOf compare_refusals (Comparison.number_of a)
      fro (refuses e) i = (compare_among c).among _ e
      fro (walks {o} f w) i = absurd ((compare_honest (walks {o = o} f w)).refused.0 i ((compare_fine c).0 f))

  means : ComparedMeans c.question c.room (Roomy c.room c.lent) (compare_answer a) later.sequence
  means =
      let h = compare_honest k in
      record {
        answered = λ p. three (Comparison.number_of a) (compare_valid p k);
        refused = (λ m. h.refused.0 (named.0 m), λ f. named.1 (h.refused.1 f));
        refused_by = λ w. (λ p. (h.refused_by w).0 (named.0 p.0, p.1), λ p. let (i, e) = (h.refused_by w).1 p in (named.1 i, e));
        same = h.same;
        different = h.different;
        full = h.full;
        full_room = h.room_kept;
        all_examined = h.all_examined;
        examined_fits = h.examined_fits;
        kept_fits = h.kept_fits;
        length_fits = h.length_fits;
        no_length = no_length a;
      }
    where
      three : (n : ℕ) → n ≤ 2 → OneOf (0 ∷ 1 ∷ 2 ∷ []) n
      three zero h = Memᴰ.head refl
      three (suc zero) h = Memᴰ.tail (Memᴰ.head refl)
      three (suc (suc zero)) h = Memᴰ.tail (Memᴰ.tail (Memᴰ.head refl))
      three (suc (suc (suc n))) h = absurd (omega (arith, h))

      no_length : (a : Comparison.Answered) → (Comparison.number_of a ≡ 1 → ⊥) → (values_of a).length ≡ 0
      no_length (Ok (Answer.Same kept examined)) f = refl
      no_length (Ok (Answer.Different kept examined length)) f = absurd (f refl)
      no_length (Ok (Answer.Full kept examined)) f = refl
      no_length (Err why) f = refl

length_is : (o : Outcome) → (values_of (answer_of o)).length ≡ length (word_of o)
length_is (Same kept e) = refl
length_is (Different kept e w) = refl
length_is (Full kept e) = refl

left : {c : Call} {a : Comparison.Answered} {later : Lent} → Compared c a later → LeftLists c.lent (compare_answer a) later
left {c} (refuses e) = record { quiet = λ m. (refl, refl); other_numbers = λ x. refl; other_bytes = refl }
left {c} (walks {o} f w) =
    record {
      quiet = λ m. absurd ((compare_honest (walks {o = o} f w)).refused.0 ((named (walks {o = o} f w)).0 m) ((compare_fine c).0 f));
      other_numbers = λ x. ap (drop (values_of (answer_of o)).kept) (laid (kept_of o) c.lent.columns x)
          ∙ drop_lay (map (value x) (kept_of o)) (column x c.lent.columns) (values_of (answer_of o)).kept (length-map (kept_of o) (value x) ∙ sym (kept_is o));
      other_bytes = drop_lay (word_of o) c.lent.sequence (values_of (answer_of o)).length (sym (length_is o));
    }

walked : {c : Call} {a : Comparison.Answered} {later : Lent} → Compared c a later → (OfComparison.IsRefused a → ⊥) → WalkedLists c.question c.room (compare_answer a) later
walked (refuses e) n = absurd (n tt)
walked {c} (walks {o} f w) n =
    record {
      outcome = o;
      walk = w;
      numbers = refl;
      columns = rw (kept_is o) (firsts_laid (kept_of o) c.lent.columns);
      sequence = take_lay (word_of o) c.lent.sequence (values_of (answer_of o)).length (sym (length_is o));
    }

-- ---- pb_compare_lists

-- it answers every call
pub pb_compare_lists_answers : (c : Call) → (r : PbCompared) × (later : Lent) × ComparedLists c r later
pb_compare_lists_answers c = let (a, later, k) = compare_answers c in (compare_answer a, later, record { answer = a; compared = k; answers = refl })

module _ {c : Call} {r : PbCompared} {later : Lent} (k : ComparedLists c r later) where
  -- it is honest, and refuses by number
  pub pb_compare_lists_means : ComparedMeans c.question c.room (Roomy c.room c.lent) r later.sequence
  pb_compare_lists_means = rw k.answers (means k.compared)

  -- it is quiet, and touches nothing that is not named
  pub pb_compare_lists_leaves : LeftLists c.lent r later
  pb_compare_lists_leaves = rw k.answers (left k.compared)

  is_refused : OfComparison.IsRefused k.answer → OneOf compare_refusals r.answer
  is_refused i = rw k.answers ((named k.compared).1 i)

  pub pb_compare_lists_walks : (OneOf compare_refusals r.answer → ⊥) → WalkedLists c.question c.room r later
  pb_compare_lists_walks n = rw k.answers (walked k.compared (λ i. n (is_refused i)))

  -- room enough, by a list that has every set reached from either start: fewer records are kept, and a room of one less is never FULL
  pub pb_compare_lists_room_enough : {sets : List ℕ} → Covers c.question sets → r.kept < length sets
  pb_compare_lists_room_enough covers = rw k.answers (compare_room_enough covers k.compared)

  pub pb_compare_lists_never_full : {sets : List ℕ} → Covers c.question sets → length sets ≤ c.room + 1 → r.answer ≡ FULL → ⊥
  pb_compare_lists_never_full covers enough e = compare_never_full covers enough k.compared (sym (ap (λ (z : PbCompared). z.answer) k.answers) ∙ e)

settled : {w : ℕ} → OneOf (SAME ∷ DIFFERENT ∷ []) w → w ≤ 1
settled (Memᴰ.head e) = omega (arith, e)
settled (Memᴰ.tail (Memᴰ.head e)) = omega (arith, e)
settled (Memᴰ.tail (Memᴰ.tail x)) = elim x [ ]

abbrev call_in : Question → ℕ → Lent → Call
call_in Q room lent = record { question = Q; room = room; lent = lent }

module _ {Q : Question} {room more : ℕ} {lent lent' : Lent} {r s : PbCompared} {l m : Lent} (le : room ≤ more)
    (k : ComparedLists (call_in Q room lent) r l) (k' : ComparedLists (call_in Q more lent') s m) where
  -- more room, unless the larger call is refused: SAME and DIFFERENT stay, number for number, record for record and letter for letter
  pub pb_compare_lists_more_room : Roomy more lent' → OneOf (SAME ∷ DIFFERENT ∷ []) r.answer → (r ≡ s) × SameWritten r.kept r.length l m
  pb_compare_lists_more_room roomy h =
      let low : Comparison.number_of k.answer ≤ 1 = settled (rw k.answers at h) in
      let (e, same) = compare_more_room le roomy k.compared k'.compared low in
      (k.answers ∙ ap compare_answer e ∙ sym k'.answers, rw k.answers same)

  -- less room
  pub pb_compare_lists_less_room : Roomy room lent → (OneOf compare_refusals s.answer → ⊥)
      → LessRoom Q.pattern.letters room s m.columns (λ (kept length : ℕ). SameWritten kept length l m) r
  pb_compare_lists_less_room roomy n =
      let less = compare_less_room le roomy k.compared k'.compared (λ i. n (is_refused k' i)) in
      rw (k.answers, k'.answers)
      (record { same = λ h. let (e, same) = less.same h in (ap compare_answer e, same); full = λ h. let (e, same) = less.full h in (ap compare_answer e, same) })

-- ---- pb_compare, and pb_compare_default at the default room

-- it answers every call
pub pb_compare_answers : (Q : Question) (room : ℕ) (records : List PbRecord) (sequence : List ℕ)
    → (r : PbCompared) × (later : List PbRecord) × (word : List ℕ) × ComparedRecords Q room records sequence r later word
pb_compare_answers Q room records sequence =
    let (a, l, k) = compare_answers (call_on Q room records sequence) in
    let (later, word, e) = pb_compare_from_columns k in
    (compare_answer a, later, word, e)

-- the room in the list's own words
roomy : {room : ℕ} {records : List PbRecord} {sequence : List ℕ} → Roomy room (lent_for records sequence) ↔ RoomFor room records sequence
roomy {records = records} = (
  λ r. record { most = r.most; records_fit = omega (arith, fit_at r.columns_fit Field.left, column_in records Field.left); sequence_fits = r.sequence_fits },
  λ r. record { most = r.most; columns_fit = fit_by (λ x. omega (arith, r.records_fit, column_in records x)); sequence_fits = r.sequence_fits },
)

lines_by : (Q : Question) {A B : Type 0} {w : ℕ} → A ↔ B → Applies (lines_of Q A) w → Applies (lines_of Q B) w
lines_by Q e (inl p) = inl p
lines_by Q e (inr (s, inl p)) = inr (s, inl p)
lines_by Q e (inr (s, inr (t, inl (n, p)))) = inr (s, inr (t, inl (λ b. n (e.1 b), p)))
lines_by Q e (inr (s, inr (t, inr (a, p)))) = inr (s, inr (t, inr (e.0 a, p)))

means_by : {Q : Question} {room : ℕ} {A B : Type 0} {r : PbCompared} {word : List ℕ} → A ↔ B → ComparedMeans Q room A r word → ComparedMeans Q room B r word
means_by {Q} e m =
    record {
      answered = λ p. m.answered (p.0, e.1 p.1);
      refused = (λ i p. m.refused.0 i (p.0, e.1 p.1), λ f. m.refused.1 (λ p. f (p.0, e.0 p.1)));
      refused_by = λ w. (λ p. lines_by Q e ((m.refused_by w).0 p), λ p. (m.refused_by w).1 (lines_by Q (e.1, e.0) p));
      same = m.same;
      different = m.different;
      full = (λ z. let ((p, a), g) = m.full.0 z in ((p, e.0 a), g), λ p. m.full.1 ((p.0.0, e.1 p.0.1), p.1));
      full_room = m.full_room;
      all_examined = m.all_examined;
      examined_fits = m.examined_fits;
      kept_fits = m.kept_fits;
      length_fits = m.length_fits;
      no_length = m.no_length;
    }

module _ {Q : Question} {room : ℕ} {records : List PbRecord} {sequence : List ℕ} {r : PbCompared} {later : List PbRecord} {word : List ℕ} where
  -- it is honest, and refuses by number
  pub pb_compare_means : ComparedRecords Q room records sequence r later word → ComparedMeans Q room (RoomFor room records sequence) r word
  pb_compare_means k = means_by roomy (pb_compare_lists_means (pb_compare_by_columns k))

  -- room enough
  pub pb_compare_room_enough : {sets : List ℕ} → ComparedRecords Q room records sequence r later word → Covers Q sets → r.kept < length sets
  pb_compare_room_enough k covers = pb_compare_lists_room_enough (pb_compare_by_columns k) covers

  pub pb_compare_never_full : {sets : List ℕ} → ComparedRecords Q room records sequence r later word → Covers Q sets → length sets ≤ room + 1 → r.answer ≡ FULL → ⊥
  pb_compare_never_full k covers enough e = pb_compare_lists_never_full (pb_compare_by_columns k) covers enough e

module _ {Q : Question} {room : ℕ} {records : List PbRecord} {sequence : List ℕ} where
  -- it is quiet, and touches nothing that is not named
  pub pb_compare_leaves : {r : PbCompared} {later : List PbRecord} {word : List ℕ} → ComparedRecords Q room records sequence r later word → LeftRecords records sequence r later word
  pb_compare_leaves (ComparedRecords.refuses why e) = record { quiet = λ m. (refl, refl, refl); other_records = refl; other_bytes = refl }
  pb_compare_leaves (ComparedRecords.walks {o} f w) =
      let low : Comparison.number_of (answer_of o) ≤ 2 = compare_valid ((compare_fine (call_on Q room records sequence)).0 f) (walks f w) in
      record {
        quiet = λ m. absurd (omega (arith, high compare_refusals refl m, low));
        other_records = drop_lay (map written (kept_of o)) records (values_of (answer_of o)).kept (length-map (kept_of o) written ∙ sym (kept_is o));
        other_bytes = drop_lay (word_of o) sequence (values_of (answer_of o)).length (sym (length_is o));
      }

  pub pb_compare_walks : {r : PbCompared} {later : List PbRecord} {word : List ℕ} → ComparedRecords Q room records sequence r later word
      → (OneOf compare_refusals r.answer → ⊥) → WalkedRecords Q room r later word
  pb_compare_walks (ComparedRecords.refuses why e) n = absurd (n ((compare_among _).among _ e))
  pb_compare_walks (ComparedRecords.walks {o} f w) n =
      record {
        outcome = o;
        walk = w;
        numbers = refl;
        records = take_lay (map written (kept_of o)) records (values_of (answer_of o)).kept (length-map (kept_of o) written ∙ sym (kept_is o));
        sequence = take_lay (word_of o) sequence (values_of (answer_of o)).length (sym (length_is o));
      }

same_records : {kept length : ℕ} {later later' : List PbRecord} {word word' : List ℕ} → SameWritten kept length (lent_for later word) (lent_for later' word')
    → SameRecords kept length later word later' word'
same_records {kept} {later = later} {later'} s = record { records = firsts_known kept later later' s.columns; sequence = s.sequence }

module _ {Q : Question} {room more : ℕ} {records records' : List PbRecord} {sequence sequence' : List ℕ} {r s : PbCompared} {later later' : List PbRecord} {word word' : List ℕ}
    (le : room ≤ more) (k : ComparedRecords Q room records sequence r later word) (k' : ComparedRecords Q more records' sequence' s later' word') where
  -- more room, unless the larger call is refused
  pub pb_compare_more_room : RoomFor more records' sequence' → OneOf (SAME ∷ DIFFERENT ∷ []) r.answer → (r ≡ s) × SameRecords r.kept r.length later word later' word'
  pb_compare_more_room fits h =
      let (e, same) = pb_compare_lists_more_room le (pb_compare_by_columns k) (pb_compare_by_columns k') (roomy.1 fits) h in (e, same_records same)

  -- less room
  pub pb_compare_less_room : RoomFor room records sequence → (OneOf compare_refusals s.answer → ⊥)
      → LessRoom Q.pattern.letters room s (columns_in later') (λ (kept length : ℕ). SameRecords kept length later word later' word') r
  pb_compare_less_room fits n =
      let less = pb_compare_lists_less_room le (pb_compare_by_columns k) (pb_compare_by_columns k') (roomy.1 fits) n in
      record {
        same = λ h. let (e, same) = less.same h in (e, same_records same);
        full = λ h. let (e, same) = less.full h in (e, same_records same);
      }

-- ---- the one-way question, as `comparison` says it

module _ {c : Call} {a : AnsweredOneWay} {later : Lent} (k : Included c a later) where
  named_within : OneOf compare_refusals (OneWay.number_of a) ↔ OfOneWay.IsRefused a
  named_within = (to k, fro k)
    where
      to : {a : AnsweredOneWay} {later : Lent} → Included c a later → OneOf compare_refusals (OneWay.number_of a) → OfOneWay.IsRefused a
      to (Included.refuses e) m = tt
      to (Included.walks {o} f w) m = absurd (low (high compare_refusals refl m) (within_valid ((compare_fine c).0 f) (Included.walks {o = o} f w)))
        where
          low : {n : ℕ} → 10 ≤ n → (n ≡ 8) ⊎ (n ≡ 9) ⊎ (n ≡ 2) → ⊥
          low h (inl e) = omega (arith, e)
          low h (inr (inl e)) = omega (arith, e)
          low h (inr (inr e)) = omega (arith, e)

      fro : {a : AnsweredOneWay} {later : Lent} → Included c a later → OfOneWay.IsRefused a → OneOf compare_refusals (OneWay.number_of a)
      fro (Included.refuses e) i = (compare_among c).among _ e
      fro (Included.walks {o} f w) i = absurd ((within_honest (Included.walks {o = o} f w)).refused.0 i ((compare_fine c).0 f))

  within_means : WithinMeans c.question c.room (Roomy c.room c.lent) (inclusion_answer a) later.sequence
  within_means =
      let h = within_honest k in
      record {
        answered = λ p. three (within_valid p k);
        refused = (λ m. h.refused.0 (named_within.0 m), λ f. named_within.1 (h.refused.1 f));
        refused_by = λ w. (λ p. (h.refused_by w).0 (named_within.0 p.0, p.1), λ p. let (i, e) = (h.refused_by w).1 p in (named_within.1 i, e));
        within = h.within;
        not_within = h.not_within;
        full = h.full;
        full_room = h.room_kept;
        all_examined = h.all_examined;
        examined_fits = h.examined_fits;
        kept_fits = h.kept_fits;
        length_fits = h.length_fits;
        no_length = no_length a;
      }
    where
      three : {n : ℕ} → (n ≡ 8) ⊎ (n ≡ 9) ⊎ (n ≡ 2) → OneOf (8 ∷ 9 ∷ 2 ∷ []) n
      three (inl e) = Memᴰ.head e
      three (inr (inl e)) = Memᴰ.tail (Memᴰ.head e)
      three (inr (inr e)) = Memᴰ.tail (Memᴰ.tail (Memᴰ.head e))

      no_length : (a : AnsweredOneWay) → (OneWay.number_of a ≡ 9 → ⊥) → (OneWay.values_of a).length ≡ 0
      no_length (Ok (Inclusion.Within kept examined)) f = refl
      no_length (Ok (Inclusion.NotWithin kept examined length)) f = absurd (f refl)
      no_length (Ok (Inclusion.Full kept examined)) f = refl
      no_length (Err why) f = refl

-- ---- by the comparison of X+Y with Y

-- the same refusals
refused_as : {n : ℕ} → OneOf compare_refusals (one_way n) → OneOf compare_refusals n
refused_as {n = zero} m = absurd (omega (arith, high compare_refusals refl m))
refused_as {n = suc zero} m = absurd (omega (arith, high compare_refusals refl m))
refused_as {n = suc (suc n)} m = m

as_refusal : {n : ℕ} → OneOf compare_refusals n → one_way n ≡ n
as_refusal m = one_way_high (omega (arith, high compare_refusals refl m))

-- ---- pb_within_lists

-- it answers every call
pub pb_within_lists_answers : (c : Call) → (r : PbCompared) × (later : Lent) × IncludedLists c r later
pb_within_lists_answers c = let (a, later, k) = within_answers c in (inclusion_answer a, later, record { answer = a; included = k; answers = refl })

-- it is pb_compare_lists of X+Y and Y, with WITHIN for SAME and NOT-WITHIN for DIFFERENT
pub pb_within_lists_compares : {c : Call} {r : PbCompared} {later : Lent} → IncludedLists c r later → (s : PbCompared) × ComparedLists (joined_call c) s later × (r ≡ as_within s)
pb_within_lists_compares {c} {later = later} k = let (s, q, e) = from k.included in (s, q, k.answers ∙ e)
  where
    from : {a : AnsweredOneWay} {later : Lent} → Included c a later → (s : PbCompared) × ComparedLists (joined_call c) s later × (inclusion_answer a ≡ as_within s)
    from (Included.refuses {why} e) = (
      compare_answer (Err why),
      record { answer = Err why; compared = refuses (joined_test c ∙ e); answers = refl },
      as_within_lem (Err why),
    )
    from (Included.walks {o} f w) = (
      compare_answer (answer_of o),
      record { answer = answer_of o; compared = walks (joined_test c ∙ f) w; answers = refl },
      as_within_lem (answer_of o),
    )

module _ {c : Call} {r : PbCompared} {later : Lent} (k : IncludedLists c r later) where
  -- it is honest, and refuses by number
  pub pb_within_lists_means : WithinMeans c.question c.room (Roomy c.room c.lent) r later.sequence
  pb_within_lists_means = rw k.answers (within_means k.included)

  -- it is quiet, and touches nothing that is not named
  pub pb_within_lists_leaves : LeftLists c.lent r later
  pb_within_lists_leaves =
      let (s, q, e) = pb_within_lists_compares k in
      let l = pb_compare_lists_leaves q in
      rw e (record { quiet = λ m. let (z, same) = l.quiet (refused_as m) in (rw z refl, same); other_numbers = l.other_numbers; other_bytes = l.other_bytes })

  -- its counts, records and sequence are those of the walk of X+Y and Y
  pub pb_within_lists_walks : (OneOf compare_refusals r.answer → ⊥) → (s : PbCompared) × (r ≡ as_within s) × WalkedLists (joined c.question) c.room s later
  pb_within_lists_walks n =
      let (s, q, e) = pb_within_lists_compares k in
      (s, e, pb_compare_lists_walks q (λ m. n (rw (e, as_refusal m) m)))

  -- room enough, by a list that has every set reached from X+Y or from Y: fewer records are kept, and a room of one less is never FULL
  pub pb_within_lists_room_enough : {sets : List ℕ} → Covers (joined c.question) sets → r.kept < length sets
  pb_within_lists_room_enough covers = rw k.answers (within_room_enough covers k.included)

  pub pb_within_lists_never_full : {sets : List ℕ} → Covers (joined c.question) sets → length sets ≤ c.room + 1 → r.answer ≡ FULL → ⊥
  pb_within_lists_never_full covers enough e = within_never_full covers k.included enough (sym (ap (λ (z : PbCompared). z.answer) k.answers) ∙ e)

settled_within : {w : ℕ} → OneOf (WITHIN ∷ NOT_WITHIN ∷ []) w → (w ≡ 8) ⊎ (w ≡ 9)
settled_within (Memᴰ.head e) = inl e
settled_within (Memᴰ.tail (Memᴰ.head e)) = inr e
settled_within (Memᴰ.tail (Memᴰ.tail x)) = elim x [ ]

-- more room, unless the larger call is refused: WITHIN and NOT-WITHIN stay, number for number, record for record and letter for letter
pub pb_within_lists_more_room : {Q : Question} {room more : ℕ} {lent lent' : Lent} {r s : PbCompared} {l m : Lent} → room ≤ more
    → IncludedLists (call_in Q room lent) r l → IncludedLists (call_in Q more lent') s m
    → Roomy more lent' → OneOf (WITHIN ∷ NOT_WITHIN ∷ []) r.answer → (r ≡ s) × SameWritten r.kept r.length l m
pb_within_lists_more_room le k k' roomy h =
    let (e, same) = within_more_room le roomy k.included k'.included (settled_within (rw k.answers at h)) in
    (k.answers ∙ ap inclusion_answer e ∙ sym k'.answers, rw k.answers same)

-- ---- pb_within

-- it answers every call
pub pb_within_answers : (Q : Question) (room : ℕ) (records : List PbRecord) (sequence : List ℕ)
    → (r : PbCompared) × (later : List PbRecord) × (word : List ℕ) × IncludedRecords Q room records sequence r later word
pb_within_answers Q room records sequence =
    let (a, l, k) = within_answers (call_on Q room records sequence) in
    let (later, word, e) = pb_within_from_columns k in
    (inclusion_answer a, later, word, e)

within_by : {Q : Question} {room : ℕ} {A B : Type 0} {r : PbCompared} {word : List ℕ} → A ↔ B → WithinMeans Q room A r word → WithinMeans Q room B r word
within_by {Q} e m =
    record {
      answered = λ p. m.answered (p.0, e.1 p.1);
      refused = (λ i p. m.refused.0 i (p.0, e.1 p.1), λ f. m.refused.1 (λ p. f (p.0, e.0 p.1)));
      refused_by = λ w. (λ p. lines_by Q e ((m.refused_by w).0 p), λ p. (m.refused_by w).1 (lines_by Q (e.1, e.0) p));
      within = m.within;
      not_within = m.not_within;
      full = (λ z. let ((p, a), g) = m.full.0 z in ((p, e.0 a), g), λ p. m.full.1 ((p.0.0, e.1 p.0.1), p.1));
      full_room = m.full_room;
      all_examined = m.all_examined;
      examined_fits = m.examined_fits;
      kept_fits = m.kept_fits;
      length_fits = m.length_fits;
      no_length = m.no_length;
    }

module _ {Q : Question} {room : ℕ} {records : List PbRecord} {sequence : List ℕ} where
  -- it is pb_compare of X+Y and Y, with WITHIN for SAME and NOT-WITHIN for DIFFERENT
  pub pb_within_compares : {r : PbCompared} {later : List PbRecord} {word : List ℕ} → IncludedRecords Q room records sequence r later word
      → (s : PbCompared) × ComparedRecords (joined Q) room records sequence s later word × (r ≡ as_within s)
  pb_within_compares (IncludedRecords.refuses why e) = (
    compare_answer (Err why),
    ComparedRecords.refuses why (joined_test (call_on Q room records sequence) ∙ e),
    as_within_lem (Err why),
  )
  pb_within_compares (IncludedRecords.walks {o} f w) = (
    compare_answer (answer_of o),
    ComparedRecords.walks (joined_test (call_on Q room records sequence) ∙ f) w,
    as_within_lem (answer_of o),
  )

module _ {Q : Question} {room : ℕ} {records : List PbRecord} {sequence : List ℕ} {r : PbCompared} {later : List PbRecord} {word : List ℕ}
    (k : IncludedRecords Q room records sequence r later word) where
  -- it is honest, and refuses by number
  pub pb_within_means : WithinMeans Q room (RoomFor room records sequence) r word
  pb_within_means = within_by roomy (pb_within_lists_means (pb_within_by_columns k))

  -- it is quiet, and touches nothing that is not named
  pub pb_within_leaves : LeftRecords records sequence r later word
  pb_within_leaves =
      let (s, q, e) = pb_within_compares k in
      let l = pb_compare_leaves q in
      rw e (record { quiet = λ m. let (z, list, bytes) = l.quiet (refused_as m) in (rw z refl, list, bytes); other_records = l.other_records; other_bytes = l.other_bytes })

  -- its counts, records and sequence are those of the walk of X+Y and Y
  pub pb_within_walks : (OneOf compare_refusals r.answer → ⊥) → (s : PbCompared) × (r ≡ as_within s) × WalkedRecords (joined Q) room s later word
  pb_within_walks n =
      let (s, q, e) = pb_within_compares k in
      (s, e, pb_compare_walks q (λ m. n (rw (e, as_refusal m) m)))

  -- room enough, by a list that has every set reached from X+Y or from Y
  pub pb_within_room_enough : {sets : List ℕ} → Covers (joined Q) sets → r.kept < length sets
  pb_within_room_enough covers = pb_within_lists_room_enough (pb_within_by_columns k) covers

  pub pb_within_never_full : {sets : List ℕ} → Covers (joined Q) sets → length sets ≤ room + 1 → r.answer ≡ FULL → ⊥
  pb_within_never_full covers enough e = pb_within_lists_never_full (pb_within_by_columns k) covers enough e

-- more room, unless the larger call is refused
pub pb_within_more_room : {Q : Question} {room more : ℕ} {records records' : List PbRecord} {sequence sequence' : List ℕ} {r s : PbCompared} {later later' : List PbRecord} {word word' : List ℕ} → room ≤ more
    → IncludedRecords Q room records sequence r later word → IncludedRecords Q more records' sequence' s later' word'
    → RoomFor more records' sequence' → OneOf (WITHIN ∷ NOT_WITHIN ∷ []) r.answer → (r ≡ s) × SameRecords r.kept r.length later word later' word'
pb_within_more_room le k k' fits h =
    let (e, same) = pb_within_lists_more_room le (pb_within_by_columns k) (pb_within_by_columns k') (roomy.1 fits) h in (e, same_records same)

-- ---- pb_check, and pb_check_records at the two sides of the records

module _ {o : Offer} {a : Result Evidence'.Answer Refusal} (k : Checked o a) where
  named_check : OneOf check_refusals (Evidence.number_of a) ↔ OfEvidence.IsRefused a
  named_check = (λ m. to a (high check_refusals refl m), λ i. (check_among o).among _ (((check_lines_lem o).against _).1 (((check_honest k).refused_by _).0 (i, refl))))
    where
      to : (a : Result Evidence'.Answer Refusal) → 10 ≤ Evidence.number_of a → OfEvidence.IsRefused a
      to (Ok Evidence'.TheVariants.Proved) h = omega (arith, h)
      to (Ok (Evidence'.TheVariants.NotProved place)) h = omega (arith, h)
      to (Err why) h = tt

  check_means : CheckedMeans o (check_answer a)
  check_means =
      let h = check_honest k in
      record {
        answered = λ v. two (valid_answered v k);
        refused = (λ m. h.refused.0 (named_check.0 m), λ f. named_check.1 (h.refused.1 f));
        refused_by = λ w. (λ p. (h.refused_by w).0 (named_check.0 p.0, p.1), λ p. let (i, e) = (h.refused_by w).1 p in (named_check.1 i, e));
        proved = h.proved;
        same = h.same;
        not_proved = h.not_proved;
        no_place = h.no_place;
      }
    where
      two : {w : ℕ} → (w ≡ 5) ⊎ (w ≡ 6) → OneOf (5 ∷ 6 ∷ []) w
      two (inl e) = Memᴰ.head e
      two (inr e) = Memᴰ.tail (Memᴰ.head e)

pub pb_check_means : {o : Offer} {r : PbChecked} → CheckedOffer o r → CheckedMeans o r
pb_check_means k = rw k.answers (check_means k.checked)

-- no pairs at all: PROVED exactly where X and Y are one set
pub pb_check_no_pairs : {Q : Question} {r : PbChecked} → Proper Q → CheckedOffer (offer_for Q (columns_of [])) r → (r.answer ≡ PROVED) ↔ (Q.left ≡ Q.right)
pb_check_no_pairs p k =
    let proved = (pb_check_means k).proved in
    (λ e. no_pairs_hold.0 (proved.0 e).1, λ e. proved.1 (no_pairs_valid p.valid p.left_good p.right_good, no_pairs_hold.1 e))

-- what SAME left is PROVED, as it is: pb_compare_lists, then pb_check of the first `kept` places of the two sides
pub pb_check_after_same : {c : Call} {r : PbCompared} {later : Lent} {s : PbChecked} → ComparedLists c r later → r.answer ≡ SAME
    → CheckedOffer (offer_for c.question (firsts r.kept later.columns)) s → s.answer ≡ PROVED
pb_check_after_same k z q =
    let proved = compare_same_is_proved k.compared (rw k.answers at z) (rw k.answers at q.checked) in
    rw (q.answers, proved) refl

-- and pb_compare, or pb_compare_default at the default room, then pb_check_records of the first `kept` records
pub pb_check_records_after_same : {Q : Question} {room : ℕ} {records : List PbRecord} {sequence : List ℕ} {r : PbCompared} {later : List PbRecord} {word : List ℕ} {s : PbChecked}
    → ComparedRecords Q room records sequence r later word → r.answer ≡ SAME → CheckedOffer (offer_for Q (columns_in (take r.kept later))) s → s.answer ≡ PROVED
pb_check_records_after_same {Q} {r = r} {later} {s = s} k z q =
    pb_check_after_same (pb_compare_by_columns k) z (subst (λ (u : Columns). CheckedOffer (offer_for Q u) s) (columns_first r.kept later) q)

-- ---- the evidence that WITHIN leaves: of X+Y and Y

-- whoever wrote the list
pub pb_check_within : {Q : Question} (pairs : Columns) {s : PbChecked} → CheckedOffer (offer_for (joined Q) pairs) s → s.answer ≡ PROVED → LanguageWithin Q.pattern Q.left Q.right
pb_check_within pairs k z = union_within.0 ((pb_check_means k).same z)

same_by : {n : ℕ} → one_way n ≡ WITHIN → OneOf (SAME ∷ DIFFERENT ∷ FULL ∷ []) n ⊎ OneOf compare_refusals n → n ≡ SAME
same_by z (inl (Memᴰ.head e)) = e
same_by {n} z (inl (Memᴰ.tail (Memᴰ.head e))) = absurd (let d : one_way 1 ≡ 8 = rw e at z in omega (arith, d))
same_by {n} z (inl (Memᴰ.tail (Memᴰ.tail (Memᴰ.head e)))) = absurd (let d : one_way 2 ≡ 8 = rw e at z in omega (arith, d))
same_by z (inl (Memᴰ.tail (Memᴰ.tail (Memᴰ.tail x)))) = elim x [ ]
same_by z (inr m) = absurd (omega (arith, high compare_refusals refl m, as_refusal m, z))

one_of : {c : Call} {s : PbCompared} {later : Lent} → ComparedLists c s later → OneOf (SAME ∷ DIFFERENT ∷ FULL ∷ []) s.answer ⊎ OneOf compare_refusals s.answer
one_of k = rw k.answers (from k.compared)
  where
    from : {c : Call} {a : Comparison.Answered} {later : Lent} → Compared c a later
        → OneOf (SAME ∷ DIFFERENT ∷ FULL ∷ []) (Comparison.number_of a) ⊎ OneOf compare_refusals (Comparison.number_of a)
    from {c} (refuses e) = inr ((compare_among c).among _ e)
    from {c} (walks {o} f w) = inl ((means (walks {o = o} f w)).answered ((compare_fine c).0 f))

-- pb_check_records answers PROVED of X+Y and Y to the first `kept` records
pub pb_check_records_after_within : {Q : Question} {room : ℕ} {records : List PbRecord} {sequence : List ℕ} {r : PbCompared} {later : List PbRecord} {word : List ℕ} {s : PbChecked}
    → IncludedRecords Q room records sequence r later word → r.answer ≡ WITHIN → CheckedOffer (offer_for (joined Q) (columns_in (take r.kept later))) s → s.answer ≡ PROVED
pb_check_records_after_within k z q =
    let (t, c, e) = pb_within_compares k in
    pb_check_records_after_same c (same_by (rw e at z) (one_of (pb_compare_by_columns c))) (rw e at q)

-- and pb_check to their two sides
pub pb_check_after_within : {c : Call} {r : PbCompared} {later : Lent} {s : PbChecked} → IncludedLists c r later → r.answer ≡ WITHIN
    → CheckedOffer (offer_for (joined c.question) (firsts r.kept later.columns)) s → s.answer ≡ PROVED
pb_check_after_within k z q =
    let (t, c, e) = pb_within_lists_compares k in
    pb_check_after_same c (same_by (rw e at z) (one_of c)) (rw e at q)

-- ---- pb_judge

module _ (P : Pattern) (set : ℕ) (sequence : List ℕ) where
  named_judge : OneOf judge_refusals (Judge.number_of (judged P set sequence)) ↔ Judge.IsRefused (judged P set sequence)
  named_judge = (
    λ m. to (judged P set sequence) (high judge_refusals refl m),
    λ i. (judge_among P set sequence).among _ (((judge_lines_lem P set sequence).against _).1 (((judge_honest P set sequence refl).refused_by _).0 (i, refl))),
  )
    where
      to : (j : Judged) → 10 ≤ Judge.number_of j → Judge.IsRefused j
      to Judged.Accept h = omega (arith, h)
      to Judged.Reject h = omega (arith, h)
      to (Judged.Refused w) h = tt

  judge_means : JudgedMeans P set sequence (judge_answer (judged P set sequence))
  judge_means =
      let h = judge_honest P set sequence refl in
      record {
        answered = λ q. two (judge_answered P set sequence refl q);
        refused = (λ m. h.refused.0 (named_judge.0 m), λ f. named_judge.1 (h.refused.1 f));
        refused_by = λ w. (λ p. (h.refused_by w).0 (named_judge.0 p.0, p.1), λ p. let (i, e) = (h.refused_by w).1 p in (named_judge.1 i, e));
        accept = h.accept;
        reject = h.reject;
      }
    where
      two : {w : ℕ} → (w ≡ 3) ⊎ (w ≡ 4) → OneOf (3 ∷ 4 ∷ []) w
      two (inl e) = Memᴰ.head e
      two (inr e) = Memᴰ.tail (Memᴰ.head e)

  pub pb_judge_means : {r : PbJudged} → r ≡ judge_answer (judged P set sequence) → JudgedMeans P set sequence r
  pb_judge_means e = rw e judge_means

-- ---- pb_read_pattern, of the bytes that a slice of bytes holds

module _ {bytes : List ℕ} (are : AreBytes bytes) (old : List ℕ) where
  named_read : (r : Result PatternNumbers Fault) (new : List ℕ) → Reads bytes old r new → OneOf read_refusals (Reader.number_of r) ↔ Reader.IsRefused r
  named_read (Ok f) new h = (λ m. omega (arith, high read_refusals refl m), λ i. absurd i)
  named_read (Err fault) new h = (λ m. tt, λ i. (read_number {s = bytes} {old = old} {new = new} fault are h).among _ refl)

  padded_refuses : OneOf read_refusals PADDED
  padded_refuses = Memᴰ.tail (Memᴰ.tail (Memᴰ.tail (Memᴰ.tail (Memᴰ.head refl))))

  too_big_refuses : OneOf read_refusals TOO_BIG
  too_big_refuses = Memᴰ.tail (Memᴰ.tail (Memᴰ.tail (Memᴰ.tail (Memᴰ.tail (Memᴰ.tail (Memᴰ.head refl))))))

  read_means : (r : Result PatternNumbers Fault) (new : List ℕ) → Reads bytes old r new → PatternMeans bytes old (pattern_answer r) new
  read_means r new k =
      let h = read_honest bytes old are r new k in
      let named = named_read r new k in
      record {
        done = h.done;
        returned = λ f. let (v, l) = h.returned f in (patterned (h.done.1 f) v, l);
        refused = (λ m. h.refused.0 (named.0 m), λ f. named.1 (h.refused.1 f));
        refused_by = λ w place. (
          λ (m, e, d). (h.refused_by w place).0 (named.0 m, e, d),
          λ p. let (i, e, d) = (h.refused_by w place).1 p in (named.1 i, e, d),
        );
        reason = λ m. h.reason (named.0 m);
        padded = λ e. padded_there (h.reason (named.0 (rw e padded_refuses))) e;
        too_big = λ e. too_big_there (h.reason (named.0 (rw e too_big_refuses))) e;
        quiet = λ m. let (v, l) = h.quiet (named.0 m) in (patterned refl v, l);
      }
    where
      -- by its number and its values
      patterned : {w : ℕ} {v : Reader.Values} → Reader.number_of r ≡ w → Reader.values_of r ≡ v
          → pattern_answer r ≡ record { answer = w; states = v.states; letters = v.letters; finals = v.finals; x = v.x; y = v.y; place = v.place }
      patterned e d i = record { answer = e i; states = (d i).states; letters = (d i).letters; finals = (d i).finals; x = (d i).x; y = (d i).y; place = (d i).place }

  pub pb_read_means : {r : PbPattern} {new : List ℕ} → ReadPattern bytes old r new → PatternMeans bytes old r new
  pb_read_means {new = new} k = rw k.answers (read_means k.read new k.leaves)

  -- a buffer for the most rows is always enough
  pub pb_read_enough : {r : PbPattern} {new : List ℕ} → ReadPattern bytes old r new → max_rows ≤ length old
      → (P : Pattern) (x y : ℕ) → Valid P → Good P.states x → Good P.states y → bytes ≡ file_bytes P x y → r.answer ≡ DONE
  pb_read_enough k room P x y v gx gy e =
      let most : P.states * P.letters ≤ 64 * 32 = mul-le-mul v.sized.states_fit v.sized.letters_fit in
      (pb_read_means k).done.1 (record { pattern = P; x = x; y = y; valid = v; good_x = gx; good_y = gy; enough = omega (arith, most, room); file = e })

-- ---- pb_write_pattern

module _ (P : Pattern) (x y : ℕ) (old : List ℕ) where
  named_write : (r : Result ℕ Refusal) (new : List ℕ) → Writes P x y old r new → OneOf write_refusals (Writer.number_of r) ↔ Writer.IsRefused r
  named_write (Ok count) new h = (λ m. omega (arith, high write_refusals refl m), λ i. absurd i)
  named_write (Err why) new h = (λ m. tt, λ i. (write_number {P = P} {x = x} {y = y} {old = old} why h).among _ refl)

  write_means : (r : Result ℕ Refusal) (new : List ℕ) → Writes P x y old r new → WrittenMeans P x y old (written_answer r) new
  write_means r new k =
      let h = write_honest P x y old r new k in
      let named = named_write r new k in
      record {
        done = h.done;
        returned = λ e. let (c, l) = h.returned e in (counted e c, l);
        refused = (λ m. h.refused.0 (named.0 m), λ f. named.1 (h.refused.1 f));
        refused_by = λ w. (λ p. (h.refused_by w).0 (named.0 p.0, p.1), λ p. let (i, e) = (h.refused_by w).1 p in (named.1 i, e));
        quiet = λ m. let (c, l) = h.quiet (named.0 m) in (counted refl c, l);
      }
    where
      counted : {w count : ℕ} → Writer.number_of r ≡ w → Writer.count_of r ≡ count → written_answer r ≡ record { answer = w; count = count }
      counted e d i = record { answer = e i; count = d i }

  pub pb_write_means : {r : PbWritten} {new : List ℕ} → WrittenPattern P x y old r new → WrittenMeans P x y old r new
  pb_write_means {new = new} k = rw k.answers (write_means k.written new k.leaves)

  -- a buffer for the longest file is always enough
  pub pb_write_enough : {r : PbWritten} {new : List ℕ} → WrittenPattern P x y old r new → longest_file ≤ length old
      → Valid P → Good P.states x → Good P.states y → r.answer ≡ DONE
  pb_write_enough k room v gx gy = (pb_write_means k).done.1 (record { valid = v; good_x = gx; good_y = gy; enough = omega (arith, file_short P x y v gx gy, room) })

-- ---- pb_expressions

module _ (one two old : List ℕ) where
  expressed_means : (a : Texts.Answer) (new : List ℕ) → Answered one two old new a → ExpressedMeans one two old (expressed_answer a) new
  expressed_means (Ok p) new k =
      let h = expressions_honest one two old (Ok p) new k in
      record {
        done = h.done;
        returned = λ e. refl;
        made = h.made;
        refused = (λ m. absurd (omega (arith, high text_refusals refl m)), λ f. absurd (h.refused.1 f));
        refused_by = λ w place text. (λ p. absurd (omega (arith, high text_refusals refl p.0)), λ p. absurd ((h.refused_by w place text).1 p).0);
        quiet = λ m. absurd (omega (arith, high text_refusals refl m));
      }
  expressed_means (Err f) new k =
      let h = expressions_honest one two old (Err f) new k in
      record {
        done = h.done;
        returned = λ e. absurd (h.made e);
        made = λ e. absurd (h.made e);
        refused = (λ m. h.refused.0 tt, λ f. h.among tt);
        refused_by = λ w at' text'. (
          λ (m, e, d, c). (h.refused_by w at' text').0 (tt, e, d, c),
          λ p. let (i, e, d, c) = (h.refused_by w at' text').1 p in (h.among i, e, d, c),
        );
        quiet = λ m. (refl, h.quiet tt);
      }

  pub pb_expressions_means : {r : PbExpressed} {new : List ℕ} → ExpressedTexts one two old r new → ExpressedMeans one two old r new
  pb_expressions_means {new = new} k = rw k.answers (expressed_means k.answer new k.leaves)

  -- each start accepts exactly the sequences that the expression of its text takes, and a text has one expression
  pub pb_expressions_language : {r : PbExpressed} {new : List ℕ} → ExpressedTexts one two old r new → r.answer ≡ DONE
      → (e f : Expr) → Means one e → Means two f → (w : List ℕ) → Over 32 w
      → ((accepts (pattern_left r new) r.x w ≡ true) ↔ Takes e w) × ((accepts (pattern_left r new) r.y w ≡ true) ↔ Takes f w)
  pb_expressions_language {r} {new} k done e f p q w o =
      let means = pb_expressions_means k in
      let back = means.returned done in
      let speaks = (means.made done).speaks in
      (of r.x one e p speaks.first_speaks back, of r.y two f q speaks.second_speaks back)
    where
      of : (set : ℕ) (text : List ℕ) (e : Expr) → Means text e → Speaks (pattern_of r.states 32 r.finals (take (r.states * 32) new)) set text
          → r ≡ done_expressed r.states r.finals r.x r.y → (accepts (pattern_left r new) set w ≡ true) ↔ Takes e w
      of set text e p speaks back =
          let letters : r.letters ≡ 32 = ap (λ (z : PbExpressed). z.letters) back in
          rw letters (subst (λ (z : Expr). (accepts (pattern_of r.states 32 r.finals (take (r.states * 32) new)) set w ≡ true) ↔ Takes z w) (one_meaning text speaks.tree e speaks.means p) (speaks.language w o))

  -- what SAME says of the two starts, it says of the two expressions
  pub pb_expressions_same : {r : PbExpressed} {new : List ℕ} → ExpressedTexts one two old r new → r.answer ≡ DONE
      → (e f : Expr) → Means one e → Means two f → SameLanguage (pattern_left r new) r.x r.y → (w : List ℕ) → Over 32 w → Takes e w ↔ Takes f w
  pb_expressions_same {r} k done e f p q same w o =
      let (a, b) = pb_expressions_language k done e f p q w o in
      let letters : r.letters ≡ 32 = ap (λ (z : PbExpressed). z.letters) ((pb_expressions_means k).returned done) in
      let alike = same.words w (subst (λ (n : ℕ). Over n w) (sym letters) o) in
      (λ t. b.0 (sym alike ∙ a.1 t), λ t. a.0 (alike ∙ b.1 t))

  -- a buffer for the most rows is always enough
  pub pb_expressions_enough : {r : PbExpressed} {new : List ℕ} → ExpressedTexts one two old r new → max_rows ≤ length old → r.answer ≡ NO_ROOM → ⊥
  pb_expressions_enough {r} k room e =
      let m : OneOf text_refusals r.answer = Memᴰ.tail (Memᴰ.tail (Memᴰ.tail (Memᴰ.head e))) in
      rows_enough (((pb_expressions_means k).refused_by r.answer r.place r.text).0 (m, refl, refl, refl)) room e

-- ---- files go round

-- what pb_write_pattern wrote, pb_read_pattern reads back: the same values, and the same rows
pub pb_read_after_write : {P : Pattern} {x y : ℕ} {out old : List ℕ} {w : PbWritten} {out' : List ℕ} {r : PbPattern} {new : List ℕ} → WrittenPattern P x y out w out' → w.answer ≡ DONE
    → P.states * P.letters ≤ length old → ReadPattern (take w.count out') old r new → (r ≡ done_pattern P x y) × (new ≡ lay P.rows old)
pb_read_after_write {P} {x} {y} {out} {old} {w} {out'} {r} {new} k e enough k' = from k.written k.leaves k.answers e k'
  where
    from : {w : PbWritten} (a : Result ℕ Refusal) → Writes P x y out a out' → w ≡ written_answer a → w.answer ≡ DONE → ReadPattern (take w.count out') old r new
        → (r ≡ done_pattern P x y) × (new ≡ lay P.rows old)
    from (Ok count) h d e k =
        let reads : Reads (take count out') old k.read new = rw d at k.leaves in
        let (f, l) = read_after_write P x y out count out' h old k.read new enough reads in
        (k.answers ∙ ap pattern_answer f, l)
    from (Err why) h d e k = absurd (omega (arith, high write_refusals refl ((named_write P x y out (Err why) out' h).1 tt), ap (λ (z : PbWritten). z.answer) d, e))

-- what pb_read_pattern read, pb_write_pattern writes back, byte for byte
pub pb_write_after_read : {bytes old out : List ℕ} {r : PbPattern} {new : List ℕ} {w : PbWritten} {out' : List ℕ} → AreBytes bytes → ReadPattern bytes old r new → r.answer ≡ DONE
    → length bytes ≤ length out → WrittenPattern (pattern_of r.states r.letters r.finals (take (r.states * r.letters) new)) r.x r.y out w out'
    → (w ≡ done_written (length bytes)) × (out' ≡ lay bytes out)
pb_write_after_read {bytes} {old} {out} {r} {new} {w} {out'} are k e enough k' = from k.read k.leaves k.answers e k'
  where
    from : {r : PbPattern} (a : Result PatternNumbers Fault) → Reads bytes old a new → r ≡ pattern_answer a → r.answer ≡ DONE
        → WrittenPattern (pattern_of r.states r.letters r.finals (take (r.states * r.letters) new)) r.x r.y out w out'
        → (w ≡ done_written (length bytes)) × (out' ≡ lay bytes out)
    from (Ok f) h d e q =
        let writes : Writes (with_rows f (take (f.states * f.letters) new)) f.x f.y out q.written out' = rw d at q.leaves in
        let (g, l) = write_after_read bytes old f new are h out q.written out' enough writes in
        (q.answers ∙ ap written_answer g, l)
    from (Err fault) h d e q = absurd (omega (arith, high read_refusals refl ((named_read are old (Err fault) new h).1 tt), ap (λ (z : PbPattern). z.answer) d, e))
