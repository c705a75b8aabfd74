-- Which list of tests the first number comes from, and what is answered and left. Assumes nothing.
use Rattle.std.proofs.Common.{◌≡◌, ℕ, ◌≤◌, ◌<◌, zero-le, Bool, true, false, cond, List, ◌++◌, length}
use Rattle.std.proofs.Common.{refl, sym, ap, ◌∙◌, arith}
use native.Mathlib.Nat.{le_of_eq}
use borrow.Author.Tests.{ltb-true, lt-ltb}
use lib.Dec.{ltb}
use Rattle.rules.specs.declared.Refusal.{Refusal}
use Rattle.rules.specs.Units.{tenths_ceiling}
use Rattle.rules.specs.Sheet.{header_of, layout_of, month_of, sheet_length, with_contracts}
use Rattle.rules.specs.Refusals.{Test, sheet_tests, first_of}
use Rattle.rules.specs.Outcome.{refused, written}
use Rattle.rules.specs.Said.{number_of}
use Rattle.rules.specs.TransferList.{entries}
use Rattle.rules.specs.Transfers.{contracts, list_tests, turn_tests, transfer_tests, transfer_refusal}
use Rattle.rules.specs.Transfers.{transfer_outcome, transferred, volumes_after, after_entries}
use Rattle.laws.proofs.Arrays.{Agrees, filled, get_or-listed, length-listed}
use Rattle.laws.proofs.Refusals.{first_stands, first_next, sheet_limits}
use Rattle.laws.proofs.Written.{contracts_same}
use Rattle.laws.proofs.Transfers.{AllNamed, list_numbered, names_clear, after_same, turns_same}
use Rattle.laws.proofs.Answers as Answers
use Rattle.refusals_form.proofs.Refused.{from_one}
use Rattle.units.specs.declared.Tenths.{Tenths}
use Rattle.units.specs.Sums.{tenths}
use Rattle.transfers.specs.declared.contracts.Volumes.{Volumes}
use Rattle.transfers.specs.Held.{held, stated_in, read, Within}

-- The volumes of the first n consumers are read where they are held; with them, none of the 32 is above the
-- ceiling.
module _ (n : ℕ) (v : ℕ → ℕ) where
  held_at : (c : ℕ) → c < 32 → read (held n v) c ≡ cond (ltb c n) (v c) 0
  unfolding read
  held_at c b =
      ap (λ (y : Tenths). y.0) (get_or-listed (tenths 0) (filled (tenths 0) (λ k. tenths (v k)) n) 32 c b)
      ∙ go (ltb c n)
    where
      go : (q : Bool) → (cond q (tenths (v c)) (tenths 0)).0 ≡ cond q (v c) 0
      go true = refl
      go false = refl

  held_read : n ≤ 32 → (c : ℕ) → c < n → read (held n v) c ≡ v c
  held_read few c b = held_at c (omega arith) ∙ rw (lt-ltb c n b)

  held_within : ((c : ℕ) → c < n → v c ≤ tenths_ceiling) → Within (held n v)
  held_within small = record {
    wide = length-listed _ 32;
    each = λ c b. rw (held_at c b) (go c (ltb c n) refl);
  }
    where
      go : (c : ℕ) (q : Bool) → ltb c n ≡ q → cond q (v c) 0 ≤ tenths_ceiling
      go c true q = small c (ltb-true c n q)
      go c false q = zero-le

module _ (s l : List ℕ) where
  -- The volumes that the sheet states, the numbers past its own, and the sheet after the list.
  abbrev pub stated : Volumes
  stated = stated_in (layout_of s) s

  abbrev lists : List Test
  lists = list_tests (header_of s).consumers l ++ turn_tests (contracts (month_of s)) l

  abbrev changed : List ℕ
  changed = with_contracts (layout_of s) (volumes_after (month_of s) l) (header_of s).consumers s

  -- A number that is answered while the sheet stays as it was.
  abbrev Refuses : ℕ → Type 0
  Refuses n = (refused n ≡ transfer_outcome s l) × (s ≡ transferred s l)

  -- The sheet's own number.
  own : {n : ℕ} → n ≡ first_of (sheet_tests s) → 1 ≤ n → Refuses n
  unfolding transfer_outcome transferred transfer_refusal transfer_tests
  own e p = Answers.own_refused s lists changed e (λ z. omega (arith, p, z))

  pub own_answered : (refusal : Refusal) → number_of refusal ≡ first_of (sheet_tests s)
      → transfer_outcome s l ≡ refused (number_of refusal)
  own_answered refusal e = sym (own e (from_one refusal)).0

  pub own_keeps : 1 ≤ first_of (sheet_tests s) → transferred s l ≡ s
  own_keeps p = sym (own refl p).1

  -- Where it has none the sheet is whole, and has few consumers.
  module _ (none : 0 ≡ first_of (sheet_tests s)) where
    pub whole_sheet : sheet_length (layout_of s) ≤ length s
    whole_sheet =
        let w = (sheet_limits s (sym none)).0 in
        le_of_eq (sym w.length_right ∙ w.length_told)

    pub few_consumers : (header_of s).consumers ≤ 32
    few_consumers = (sheet_limits s (sym none)).1.header.consumers

    rest : {n : ℕ} → n ≡ first_of lists → 1 ≤ n → Refuses n
    unfolding transfer_outcome transferred transfer_refusal transfer_tests
    rest e p = Answers.rest_refused s lists changed (sym none) e (λ z. omega (arith, p, z))

    -- 13 or 14.
    list : {n : ℕ} → n ≡ first_of (list_tests (header_of s).consumers l) → 1 ≤ n → Refuses n
    list e p =
        let first = first_stands (list_tests (header_of s).consumers l) _ (list_numbered _ l) in
        rest (e ∙ first (λ z. omega (arith, p, e, z))) p

    pub list_answered : (refusal : Refusal)
        → number_of refusal ≡ first_of (list_tests (header_of s).consumers l)
        → transfer_outcome s l ≡ refused (number_of refusal)
    list_answered refusal e = sym (list e (from_one refusal)).0

    pub list_keeps : 1 ≤ first_of (list_tests (header_of s).consumers l) → transferred s l ≡ s
    list_keeps p = sym (list refl p).1

    -- Where neither applies.
    module _ (good : 0 ≡ first_of (list_tests (header_of s).consumers l)) where
      named : AllNamed (header_of s).consumers l
      named = names_clear (header_of s).consumers l (sym good)

      pub all_named : AllNamed 32 l
      all_named i b =
          let k = named i b in
          record {
            giver = omega (arith, k.giver, few_consumers);
            taker = omega (arith, k.taker, few_consumers);
            apart = k.apart;
          }

      pub all_within : Within stated
      unfolding stated_in
      all_within =
          held_within (header_of s).consumers (contracts (month_of s))
          (λ c b. ((sheet_limits s (sym none)).1.consumer c b).contract)

      same : (c : ℕ) → c < (header_of s).consumers → read stated c ≡ contracts (month_of s) c
      unfolding stated_in
      same = held_read (header_of s).consumers (contracts (month_of s)) few_consumers

      -- By the volumes that were read the turns go as by those that the month states.
      turns_read : turn_tests (read stated) l ≡ turn_tests (contracts (month_of s)) l
      unfolding turn_tests
      turns_read = rw (turns_same l (header_of s).consumers named (read stated) (contracts (month_of s)) same)

      turns : first_of (turn_tests (read stated) l) ≡ first_of lists
      turns =
          ap first_of turns_read
          ∙ first_next (list_tests (header_of s).consumers l) _ (list_numbered _ l) (sym good)

      -- 15.
      pub turn_answered : (refusal : Refusal) → number_of refusal ≡ first_of (turn_tests (read stated) l)
          → transfer_outcome s l ≡ refused (number_of refusal)
      turn_answered refusal e = sym (rest (e ∙ turns) (from_one refusal)).0

      pub turn_keeps : 1 ≤ first_of (turn_tests (read stated) l) → transferred s l ≡ s
      turn_keeps p = sym (rest turns p).1

      -- No number applies.
      module _ (met : 0 ≡ first_of (turn_tests (read stated) l)) where
        done : (written 0 ≡ transfer_outcome s l) × (changed ≡ transferred s l)
        unfolding transfer_outcome transferred transfer_refusal transfer_tests
        done = Answers.none_refused s lists changed (sym none) (met ∙ turns) refl

        pub written_answered : transfer_outcome s l ≡ written 0
        written_answered = sym done.0

        pub written_there : (after : Volumes)
            → Agrees 32 (tenths 0) (λ c. tenths (after_entries (read stated) l (entries l) c)) after.of
            → transferred s l ≡ with_contracts (layout_of s) (read after) (header_of s).consumers s
        unfolding volumes_after read
        written_there after a =
            sym done.1
            ∙ contracts_same (layout_of s) _ _ s _
            (λ c k.
            sym
            (ap (λ (y : Tenths). y.0) (a.each c (omega (arith, k, few_consumers)))
            ∙ after_same l (header_of s).consumers named (read stated) (contracts (month_of s)) same
            (entries l) c k))

-- What the entry's proof goes by.
pub ruleset refusing = (own_answered, own_keeps, list_answered, list_keeps, turn_answered, turn_keeps)

pub ruleset taken = (all_named, all_within, written_answered, written_there)

pub ruleset applying = (from_one, refusing, whole_sheet, few_consumers, taken)
