-- A sheet with other contract volumes: what is kept, and that its month is the old one with those volumes.
-- Assumes nothing.
use mathlib.Core.Path.{◌≡◌, refl, sym, ap, ◌∙◌}
use mathlib.Core.Bool.{Bool, true, false, cond}
use mathlib.Core.List.{List, ◌++◌}
use Prim.Native.Nat.{ℕ, ◌+◌, ◌≤◌, ◌<◌}
use native.Mathlib.Nat.{le_refl}
use native.Mathlib.Omega.{arith}
use borrow.Author.Tests.{eqb-true, eqb-false}
use lib.Dec.{eqb}
use lib.ListN.{length, get_or}
use Rattle.rules.specs.declared.Header.{Header}
use Rattle.rules.specs.declared.Consumer.{Consumer}
use Rattle.rules.specs.declared.Layout.{Layout}
use Rattle.rules.specs.Units.{tenths_ceiling}
use Rattle.rules.specs.Limits.{FormLimits, ConsumerLimits, MonthLimits}
use Rattle.rules.specs.Cut.{owns, row_count}
use Rattle.rules.specs.Fields.{big_endian, over}
use Rattle.rules.specs.Sheet.{
  header_of,
  layout_of,
  month_of,
  consumer_at,
  consumer_of,
  contract_at,
  with_contracts,
}
use Rattle.rules.specs.Result.{result_of}
use Rattle.rules.specs.Refusals.{sheet_tests, first_of}
use Rattle.rules.specs.Outcome.{Accepted, buffer_after}
use Rattle.rules.specs.TransferList.{entries}
use Rattle.rules.specs.Transfers.{
  contracts,
  list_tests,
  turn_tests,
  transfer_tests,
  transfer_refusal,
  transfer_outcome,
  volumes_after,
  transferred,
  with_volumes,
}
use Rattle.laws.proofs.Range.{sum_same}
use Rattle.laws.proofs.Fields.{same_bytes}
use Rattle.laws.proofs.Sheet.{consumer_inside}
use Rattle.laws.proofs.Refusals.{first_append, first_next, sheet_numbered, sheet_clear, limits}
use Rattle.laws.proofs.Written.{Outside, Room, length-contracts, contracts_keep, contract_read}
use Rattle.laws.proofs.Answers as Answers
use Rattle.laws.proofs.Transfers.{
  AllNamed,
  list_numbered,
  names_clear,
  applied_limits,
  after_same,
  turns_same,
  sum_after,
  after_within,
}
use Rattle.theorems.specs.Demand3.{Worse, MoreRowsKeepAttested, WorseSheet, NoBetter}
use Rattle.theorems.specs.Request1.{contract_sum, OnlyContracts}
use Rattle.theorems.proofs.Demand3.{same_header, over_begins, months_no_better}
use Rattle.theorems.proofs.Demand3 as Demand3
use Rattle.theorems.proofs.OtherConsumers as Other

-- What stands before the consumers belongs to no contract volume, and neither does a consumer's other
-- figures.
front_outside : (l : Layout) (n i : ℕ) → i < contract_at l 0 → Outside l n i
unfolding consumer_at
front_outside l n i b c k e = omega arith

rest_outside : (l : Layout) (n c k : ℕ) → 4 ≤ k → k < 15 → Outside l n (consumer_at l c + k)
unfolding consumer_at
rest_outside l n c k a b d e f = omega arith

-- The contract volumes v, written into a sheet that numbers 1 to 6 let pass.
module _ (s : List ℕ) (form : FormLimits s) (v : ℕ → ℕ) where
  abbrev after : List ℕ
  after = with_contracts (layout_of s) v (header_of s).consumers s

  room : Room (layout_of s) v s (header_of s).consumers
  room c b = omega (arith, consumer_inside (layout_of s) c b, form.length_right, form.length_told)

  as_long : length after ≡ length s
  as_long = length-contracts (layout_of s) v s (header_of s).consumers room

  kept : (i : ℕ) → Outside (layout_of s) (header_of s).consumers i → get_or after i 0 ≡ get_or s i 0
  kept i o = contracts_keep (layout_of s) v s (header_of s).consumers room i o

  front_kept : (i : ℕ) → i < consumer_at (layout_of s) 0 → get_or after i 0 ≡ get_or s i 0
  front_kept i b = kept i (front_outside (layout_of s) (header_of s).consumers i b)

  -- A figure of consumer c past its contract volume.
  rest : (c w k : ℕ) → 4 ≤ k → k + w ≤ 15 → big_endian w after (consumer_at (layout_of s) c + k)
      ≡ big_endian w s (consumer_at (layout_of s) c + k)
  rest c w k a b =
      same_bytes w after s (consumer_at (layout_of s) c + k) (consumer_at (layout_of s) c + k)
      (λ i q.
      let e : consumer_at (layout_of s) c + k + i ≡ consumer_at (layout_of s) c + (k + i) = omega arith in
      rw e (kept (consumer_at (layout_of s) c + (k + i)) (rest_outside (layout_of s) (header_of s).consumers c (k + i) (omega arith) (omega arith))))

  -- The consumers are the old ones with these volumes, where they are within the ceiling.
  module _ (small : (c : ℕ) → c < (header_of s).consumers → v c ≤ tenths_ceiling) where
    consumers_read : (c : ℕ) → c < (header_of s).consumers
        → consumer_of after (consumer_at (layout_of s) c) ≡ (with_volumes (month_of s) v).consumer c
    consumers_read c b =
        rw (
          contract_read (layout_of s) v s (header_of s).consumers room c b (omega (arith, small c b)),
          rest c 4 4 (omega arith) (omega arith),
          rest c 1 8 (omega arith) (omega arith),
          rest c 1 9 (omega arith) (omega arith),
          rest c 1 10 (omega arith) (omega arith),
          rest c 4 11 (omega arith) (omega arith),
        )

    fine : MonthLimits (month_of s) → (c : ℕ) → c < (header_of s).consumers
        → ConsumerLimits (header_of s) ((with_volumes (month_of s) v).consumer c)
    fine w c b =
        let k = w.consumer c b in
        record {
          contract = small c b;
          peak = k.peak;
          price = k.price;
          supplier = k.supplier;
          grid = k.grid;
          z_from = k.z_from;
          z_to = k.z_to;
        }

-- A list of transfers, and the sheet afterwards.
module _ (s t : List ℕ) where
  abbrev applied_sheet : List ℕ
  applied_sheet = with_contracts (layout_of s) (volumes_after (month_of s) t) (header_of s).consumers s

  either : (P : List ℕ → Type 0) → (transfer_refusal s t ≡ 0 → P applied_sheet) → P s → P (transferred s t)
  unfolding transferred
  either P new old = Answers.either (transfer_refusal s t) applied_sheet s P new old

  pub refused_keeps : (transfer_refusal s t ≡ 0 → ⊥) → transferred s t ≡ s
  unfolding transferred
  refused_keeps n = Answers.kept (transfer_refusal s t) applied_sheet s n

  -- A list that is applied.
  module _ (none : transfer_refusal s t ≡ 0) where
    form : FormLimits s
    form = (applied_limits s t none).0.0

    pub month_kept : MonthLimits (month_of s)
    month_kept = (applied_limits s t none).0.1

    pub names : AllNamed (header_of s).consumers t
    names = (applied_limits s t none).1.names

    abbrev volumes : ℕ → ℕ
    volumes = volumes_after (month_of s) t

    abbrev consumers : ℕ → Consumer
    consumers = (with_volumes (month_of s) volumes).consumer

    small : (c : ℕ) → c < (header_of s).consumers → volumes c ≤ tenths_ceiling
    unfolding volumes_after
    small c b =
        after_within t (header_of s).consumers names (contracts (month_of s)) (entries t) (le_refl _) (applied_limits s t none).1.fair (λ k q. (month_kept.consumer k q).contract) (entries t) (le_refl _) c b

    long : length applied_sheet ≡ length s
    long = as_long s form volumes

    before : (i : ℕ) → i < consumer_at (layout_of s) 0 → get_or applied_sheet i 0 ≡ get_or s i 0
    before = front_kept s form volumes

    read : (c : ℕ) → c < (header_of s).consumers
        → consumer_of applied_sheet (consumer_at (layout_of s) c) ≡ consumers c
    read = consumers_read s form volumes small

    within : (c : ℕ) → c < (header_of s).consumers → ConsumerLimits (header_of s) (consumers c)
    within = fine s form volumes small month_kept

    -- Its volumes are read from the sheet, and their sum is what it was.
    pub volumes_read : (c : ℕ) → c < (header_of s).consumers
        → contracts (month_of applied_sheet) c ≡ volumes c
    volumes_read c b = ap (λ (k : Consumer). k.contract) ((Other.alike_after s applied_sheet long before consumers read).consumer c b)

    same_sum : contract_sum applied_sheet ≡ contract_sum s
    same_sum =
        sum_same _ _ (ap (λ (x : Layout). x.header.consumers) (Other.same_layout s applied_sheet long before)) volumes_read
        ∙ (unfold volumes_after in sum_after t (header_of s).consumers names (contracts (month_of s)) (entries t) (le_refl _) (applied_limits s t none).1.fair (entries t) (le_refl _))

    with_kept : MonthLimits (with_volumes (month_of s) volumes)
    with_kept = Other.with_limits s applied_sheet long before consumers read form within month_kept

    stays : (bytes : ℕ) → Accepted s bytes → Accepted applied_sheet bytes
    stays = Other.stays s applied_sheet long before consumers read form within

    pub is_applied : transferred s t ≡ applied_sheet
    unfolding transferred
    is_applied = Answers.is_changed (transfer_refusal s t) applied_sheet s none

    pub settled : (out : List ℕ) → Accepted s (length out)
        → buffer_after (transferred s t) out ≡ over (result_of (with_volumes (month_of s) volumes)) out
    settled out a =
        ap (λ (x : List ℕ). buffer_after x out) is_applied
        ∙ Other.settled s applied_sheet long before consumers read form within out a

  pub keeps_sum : contract_sum (transferred s t) ≡ contract_sum s
  keeps_sum = either (λ (x : List ℕ). contract_sum x ≡ contract_sum s) same_sum refl

  pub only_contracts : OnlyContracts s (transferred s t)
  only_contracts =
      either (OnlyContracts s)
      (λ none. record { as_long = long none; kept = kept s (form none) (volumes_after (month_of s) t); stays_accepted = stays none })
      (record { as_long = refl; kept = λ i o. refl; stays_accepted = λ bytes a. a })

accepted_own : (s : List ℕ) (bytes : ℕ) → Accepted s bytes → first_of (sheet_tests s) ≡ 0
accepted_own s bytes a = let l = limits s bytes a in sheet_clear s l.form l.month

-- Two sheets with one header and the same contract volumes: a list has the same number with both.
module _ (s s' t : List ℕ) (heads : header_of s' ≡ header_of s) (contracts_alike : (c : ℕ) → c < (header_of s).consumers → contracts (month_of s') c ≡ contracts (month_of s) c) where
  pub list_same : first_of (list_tests (header_of s').consumers t ++ turn_tests (contracts (month_of s')) t)
      ≡ first_of (list_tests (header_of s).consumers t ++ turn_tests (contracts (month_of s)) t)
  list_same =
      ap (λ (h : Header). first_of (list_tests h.consumers t ++ turn_tests (contracts (month_of s')) t)) heads
      ∙ first_append (list_tests (header_of s).consumers t) (turn_tests (contracts (month_of s')) t) (list_numbered _ t)
      ∙ go (eqb (first_of (list_tests (header_of s).consumers t)) 0) refl
      ∙ sym (first_append (list_tests (header_of s).consumers t) (turn_tests (contracts (month_of s)) t) (list_numbered _ t))
    where
      turns : first_of (list_tests (header_of s).consumers t)
          ≡ 0 → first_of (turn_tests (contracts (month_of s')) t)
          ≡ first_of (turn_tests (contracts (month_of s)) t)
      turns good =
          unfold turn_tests first_of in
          rw (turns_same t (header_of s).consumers (names_clear (header_of s).consumers t good) (contracts (month_of s')) (contracts (month_of s)) contracts_alike)

      go : (b : Bool) → eqb (first_of (list_tests (header_of s).consumers t)) 0 ≡ b
          → cond b (first_of (turn_tests (contracts (month_of s')) t)) (first_of (list_tests (header_of s).consumers t))
          ≡ cond b (first_of (turn_tests (contracts (month_of s)) t)) (first_of (list_tests (header_of s).consumers t))
      go true e = turns (eqb-true _ _ e)
      go false e = refl

-- Two accepted sheets in demand 3's relation, and one list.
module _ (s s' t : List ℕ) (w : WorseSheet s s') where
  heads : header_of s' ≡ header_of s
  heads = same_header s s' w.header

  contracts_alike : (c : ℕ) → c < (header_of s).consumers
      → contracts (month_of s') c ≡ contracts (month_of s) c
  contracts_alike c b = (w.figures.consumer c b).contract

  module _ (room room' : ℕ) (a : Accepted s room) (a' : Accepted s' room') where
    same_refusal : transfer_refusal s' t ≡ transfer_refusal s t
    unfolding transfer_refusal transfer_tests
    same_refusal =
        sym (first_next (sheet_tests s') _ (sheet_numbered s') (accepted_own s' room' a'))
        ∙ list_same s s' t heads contracts_alike
        ∙ first_next (sheet_tests s) _ (sheet_numbered s) (accepted_own s room a)

    pub same_answer : transfer_outcome s' t ≡ transfer_outcome s t
    unfolding transfer_outcome
    same_answer = rw same_refusal

  -- The months afterwards are in that relation too.
  worse_after : (none : transfer_refusal s t ≡ 0)
      → Worse (with_volumes (month_of s) (volumes_after (month_of s) t)) (with_volumes (month_of s') (volumes_after (month_of s') t))
  unfolding volumes_after
  worse_after none =
      record {
        producer = w.figures.producer;
        row = w.figures.row;
        consumer =
            λ c b.
            let k = w.figures.consumer c b in
            record {
              contract = after_same t (header_of s).consumers (names s t none) (contracts (month_of s')) (contracts (month_of s)) contracts_alike (entries t) c b;
              peak = k.peak;
              supplier = k.supplier;
              grid = k.grid;
              z = k.z;
              price = k.price;
            };
      }

pub no_better : (s s' t out out' : List ℕ) → Accepted s (length out) → Accepted s' (length out')
    → WorseSheet s s'
    → MoreRowsKeepAttested (month_of s) (month_of s')
    → NoBetter (header_of s) (buffer_after (transferred s t) out) (buffer_after (transferred s' t) out')
no_better s s' t out out' a a' w keeps = go (eqb (transfer_refusal s t) 0) refl
  where
    same : transfer_refusal s' t ≡ transfer_refusal s t
    same = same_refusal s s' t w (length out) (length out') a a'

    go : (b : Bool) → eqb (transfer_refusal s t) 0 ≡ b
        → NoBetter (header_of s) (buffer_after (transferred s t) out) (buffer_after (transferred s' t) out')
    go true e =
        let none = eqb-true _ _ e in
        let none' = same ∙ none in
        months_no_better (with_volumes (month_of s) (volumes_after (month_of s) t)) (with_volumes (month_of s') (volumes_after (month_of s') t)) (same_header s s' w.header)
        (with_kept s t none) (with_kept s' t none') (worse_after s s' t w none) (unfold row_count owns in keeps)
        (buffer_after (transferred s t) out) (buffer_after (transferred s' t) out')
        (over_begins _ out (settled s t none out a)) (over_begins _ out' (settled s' t none' out' a'))
    go false e =
        let n = eqb-false _ _ e in
        rw (refused_keeps s t n, refused_keeps s' t (λ z. n (sym same ∙ z)))
        (Demand3.no_better s s' out out' a a' w keeps)
