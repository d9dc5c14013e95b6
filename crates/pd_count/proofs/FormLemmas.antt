-- The numbers that a chunk shows, by its form.
use Rattle.std.proofs.Common.{◌≡◌, ℕ, ◌+◌, ◌<◌, ◌≤◌, Bool, true, not, eqb, List, [], ◌∷◌, Option, None, Some, MatchOption, Result, Ok, Err, OnOk, OnErr, length, map, take, get_or, inl, inr, refl, sym, ◌∙◌, ap, subst, arith, ◌≢◌, ◌*◌, ◌/◌, ◌%◌, false, cond, drop, set, ap₂, get_or-set_same, get_or-set_other, length-drop, length-set}
use Rattle.std.specs.List.{count_by, range_with_len}
use Rattle.std.proofs.lemmas.Bool.{cases_lt}
use Rattle.std.proofs.lemmas.Bool.Decides.{nat_tests}
use Rattle.std.proofs.lemmas.List.{get_or_past, get_or-take, get_or-drop, length-take-le}
use Rattle.std.proofs.lemmas.List.FromFn.{get_or-map-range_with_len, length-map-range_with_len, take-map-range_with_len, fill_by_all, sum_by-map-range_with_len_more}
use Rattle.std.specs.Int.{from_bool}
use Rattle.pd_count.specs.declared.few.Entry.{Entry}
use Rattle.pd_count.specs.declared.chunk.Form.{Form}
use Rattle.pd_count.specs.declared.chunk.Form.TheVariants.{Few, Dense, Waiting}
use Rattle.pd_count.specs.declared.waiting.WaitingPlaces.{WaitingPlaces}
use Rattle.pd_count.specs.Counted.{PutsAt, Puts, digits_number, entered, few_numbers, form_numbers, numbers_by, waiting_number, HaveSameNumbers}

pub size_by : (n : ℕ) (f : ℕ → ℕ) → length (numbers_by n f) ≡ n
unfolding numbers_by
size_by n f = length-map-range_with_len f 0 n

-- a list of the numbers of n places, or of none where each is 0
pub record Shows (n : ℕ) (numbers : List ℕ) (f : ℕ → ℕ) : Type 0 where
  pub within : (k : ℕ) → k < n → get_or numbers k 0 ≡ f k
  pub past : (k : ℕ) → n ≤ k → get_or numbers k 0 ≡ 0

number_by : (n : ℕ) (f : ℕ → ℕ) (k : ℕ) → k < n → get_or (numbers_by n f) k 0 ≡ f k
unfolding numbers_by
number_by n f k below = get_or-map-range_with_len f 0 n k k 0 below (omega arith)

pub shows_by : (n : ℕ) (f : ℕ → ℕ) → Shows n (numbers_by n f) f
shows_by n f = record { within = number_by n f; past = λ k past. get_or_past (numbers_by n f) k 0 (omega (arith, size_by n f)) }

pub few_shows : (l : List Entry) → Shows 16320 (few_numbers l) (entered l)
few_shows [] = record { within = λ k below. refl; past = λ k past. refl }
few_shows (e ∷ l) = shows_by 16320 (entered (e ∷ l))

-- no form shows a number past the last place
pub form_past : (form : Form) (k : ℕ) → 16320 ≤ k → get_or (form_numbers form) k 0 ≡ 0
form_past (Few entries) k past = (few_shows entries.items).past k past
form_past (Dense digits) k past = (shows_by 16320 (digits_number digits.items)).past k past
form_past (Waiting waiting) k past = (shows_by 16320 (waiting_number waiting.value)).past k past

-- what was put shows
pub puts_shown : (at number n : ℕ) (old new : List ℕ) (f g : ℕ → ℕ) → n ≡ 16320 → at < n → Shows n old f → Shows n new g → Puts at number f g → PutsAt at number old new
puts_shown at number n old new f g all inside before after puts = record {
  put = after.within at inside ∙ puts.put;
  others = λ k other. elim (cases_lt k n) [
    | inl below ↦ after.within k below ∙ (puts.others k other (omega arith) ∙ sym (before.within k below))
    | inr past ↦ after.past k past ∙ sym (before.past k past)
  ];
}

pub few_size : (l : List Entry) → 0 < length l → length (few_numbers l) ≡ 16320
few_size [] some = absurd (omega arith)
few_size (e ∷ l) some = size_by 16320 (entered (e ∷ l))

-- a list that isn't empty, by the test
pub some_there : (n : ℕ) (empty : Bool) → empty ≡ eqb n 0 → not empty ≡ true → 0 < n
some_there n empty is some = grind (arith, nat_tests)

-- a chunk of entries, and one of digits, as they were read
pub shown_few : (numbers : List ℕ) (items read : List Entry) → numbers ≡ few_numbers items → read ≡ items → Shows 16320 numbers (entered read)
shown_few numbers items read is same = rw (is, same) (few_shows items)

pub shown_dense : (numbers items read : List ℕ) → numbers ≡ numbers_by 16320 (digits_number items) → read ≡ items → Shows 16320 numbers (digits_number read)
shown_dense numbers items read is same = rw (is, same) (shows_by 16320 (digits_number items))

pub shown_waiting : (numbers : List ℕ) (waiting read : WaitingPlaces) → numbers ≡ numbers_by 16320 (waiting_number waiting) → read ≡ waiting
    → Shows 16320 numbers (waiting_number read)
shown_waiting numbers waiting read is same = rw (is, same) (shows_by 16320 (waiting_number waiting))

-- the numbers of all places are told by each of them
same_numbers : (n : ℕ) (f : ℕ → ℕ) (xs : List ℕ) → length xs ≡ n → ((k : ℕ) → k < n → get_or xs k 0 ≡ f k) → xs ≡ numbers_by n f
unfolding numbers_by
same_numbers n f xs size each = fill_by_all f xs n 0 size each

pub shows_all : (n : ℕ) (f : ℕ → ℕ) (xs : List ℕ) → length xs ≡ n → Shows n xs f → xs ≡ numbers_by n f
shows_all n f xs size shows = same_numbers n f xs size shows.within

-- what was copied is all
pub copied : (n : ℕ) (f : ℕ → ℕ) (xs ys : List ℕ) → length xs ≡ n → Shows n xs f → length ys ≡ n → ((k : ℕ) → k < n → get_or ys k 0 ≡ f k) → ys ≡ xs
copied n f xs ys size shows same each = same_numbers n f ys same each ∙ sym (shows_all n f xs size shows)

-- other digits of the same numbers
pub spread_same : (n : ℕ) (f g : ℕ → ℕ) (xs : List ℕ) → length xs ≡ n → Shows n xs f → ((k : ℕ) → k < n → g k ≡ f k) → numbers_by n g ≡ xs
spread_same n f g xs size shows each = sym (same_numbers n g xs size (λ k below. shows.within k below ∙ sym (each k below)))

-- the first place that has enough
pub first_shown : (r : Option ℕ) (from least n : ℕ) (xs : List ℕ) (f : ℕ → ℕ) → n ≡ 16320 → Shows n xs f → 0 < least
    → MatchOption r ((k : ℕ) → from ≤ k → k < 16320 → f k < least)
    (λ at. (from ≤ at) × ((at < 16320) × ((least ≤ f at) × ((k : ℕ) → from ≤ k → k < at → f k < least))))
    → MatchOption r ((k : ℕ) → from ≤ k → get_or xs k 0 < least)
    (λ at. (from ≤ at) × ((at < 16320) × ((least ≤ get_or xs at 0) × ((k : ℕ) → from ≤ k → k < at → get_or xs k 0 < least))))
first_shown None from least n xs f all shows some none = λ k behind. elim (cases_lt k n) [
  | inl below ↦ let is = shows.within k below in let less = none k behind (omega arith) in omega arith
  | inr past ↦ let is = shows.past k past in omega arith
]
first_shown (Some at) from least n xs f all shows some found =
    let behind = found.0 in
    let below = found.1.0 in
    let enough = found.1.1.0 in
    let is = shows.within at (omega arith) in (
      behind,
      (
        below,
        (
          omega arith,
          λ k from less. let same = shows.within k (omega arith) in let low = found.1.1.1 k from less in omega arith,
        ),
      ),
    )

-- the zeros among the first numbers
first_numbers : (n covered : ℕ) (f : ℕ → ℕ) → covered ≤ n → take covered (numbers_by n f) ≡ map f (range_with_len 0 covered)
unfolding numbers_by
first_numbers n covered f within = take-map-range_with_len f 0 n covered within

pub zeros_shown : (n covered : ℕ) (f : ℕ → ℕ) (xs : List ℕ) → covered ≤ n → length xs ≡ n → Shows n xs f
    → count_by (λ n. eqb n 0) (map f (range_with_len 0 covered)) ≡ count_by (λ n. eqb n 0) (take covered xs)
zeros_shown n covered f xs within size shows =
    ap (count_by (λ n. eqb n 0)) (sym (ap (take covered) (shows_all n f xs size shows) ∙ first_numbers n covered f within))

-- what a call put shows, where it is Ok
pub puts_on_ok : {T E : Type 0} (r : Result T E) (at number : ℕ) (old new : List ℕ) (f g : ℕ → ℕ) → at < 16320 → Shows 16320 old f → Shows 16320 new g
    → OnOk r (Puts at number f g) → OnOk r (PutsAt at number old new)
puts_on_ok (Ok t) at number old new f g below before after puts = puts_shown at number 16320 old new f g refl below before after puts
puts_on_ok (Err e) at number old new f g below before after puts = tt

-- one more shows
pub raised_shown : (at : ℕ) (old new : List ℕ) (f g : ℕ → ℕ) → at < 16320 → Shows 16320 old f → Shows 16320 new g → Puts at (f at + 1) f g
    → PutsAt at (get_or old at 0 + 1) old new
raised_shown at old new f g below before after puts =
    subst (λ (n : ℕ). PutsAt at (n + 1) old new) (sym (before.within at below)) (puts_shown at (f at + 1) 16320 old new f g refl below before after puts)

-- the numbers of all places, one by one
pub numbers_same : (n : ℕ) (f g : ℕ → ℕ) → ((k : ℕ) → k < n → g k ≡ f k) → numbers_by n g ≡ numbers_by n f
numbers_same n f g each = spread_same n f g (numbers_by n f) (size_by n f) (shows_by n f) each

-- places that wait have the same numbers after a call
pub waiting_kept : (xs : List ℕ) (waiting read new : WaitingPlaces) → xs ≡ numbers_by 16320 (waiting_number waiting) → read ≡ waiting → HaveSameNumbers new read
    → numbers_by 16320 (waiting_number new) ≡ xs
waiting_kept xs waiting read new is same counts =
    numbers_same 16320 (waiting_number read) (waiting_number new) counts ∙ (ap (λ (w : WaitingPlaces). numbers_by 16320 (waiting_number w)) same ∙ sym is)

pub kept_on_err : {T E : Type 0} (r : Result T E) (xs : List ℕ) (waiting read new : WaitingPlaces) → xs ≡ numbers_by 16320 (waiting_number waiting) → read ≡ waiting
    → OnErr r (HaveSameNumbers new read) → OnErr r (numbers_by 16320 (waiting_number new) ≡ xs)
kept_on_err (Ok t) xs waiting read new is same counts = tt
kept_on_err (Err e) xs waiting read new is same counts = waiting_kept xs waiting read new is same counts

-- one more at a place, unless there is no greater number
pub noted_others : {T E : Type 0} (r : Result T E) (at n : ℕ) (old new : List ℕ) → OnOk r (PutsAt at n old new) → OnOk r (PutsAt at (get_or new at 0) old new)
noted_others (Ok t) at n old new puts = record { put = refl; others = puts.others }
noted_others (Err e) at n old new puts = tt

pub noted_more : {T E : Type 0} (r : Result T E) (at n : ℕ) (old new : List ℕ) → OnOk r (PutsAt at n old new)
    → (get_or old at 0 < 4294967295 → n ≡ get_or old at 0 + 1) → OnOk r (get_or old at 0 < 4294967295 → get_or new at 0 ≡ get_or old at 0 + 1)
noted_more (Ok t) at n old new puts more = λ few. puts.put ∙ more few
noted_more (Err e) at n old new puts more = tt

-- Numbers by their digits.

-- a number by four digits
pub digits_are : (d : List ℕ) (k a b c e : ℕ) → get_or d k 0 ≡ a → get_or d (16320 + k) 0 ≡ b → get_or d (32640 + k) 0 ≡ c → get_or d (48960 + k) 0 ≡ e
    → digits_number d k ≡ a + 256 * (b + 256 * (c + 256 * e))
unfolding digits_number
digits_are d k a b c e first second third fourth = rw (first, second, third, fourth) refl

pub digits_same : (d e : List ℕ) (k : ℕ) → get_or d k 0 ≡ get_or e k 0 → get_or d (16320 + k) 0 ≡ get_or e (16320 + k) 0
    → get_or d (32640 + k) 0 ≡ get_or e (32640 + k) 0 → get_or d (48960 + k) 0 ≡ get_or e (48960 + k) 0 → digits_number d k ≡ digits_number e k
unfolding digits_number
digits_same d e k first second third fourth = rw (first, second, third, fourth) refl

-- where each place has one digit alone
pub low_digit : (d : List ℕ) (k : ℕ) → length d ≡ 16320 → digits_number d k ≡ get_or d k 0
low_digit d k size =
    digits_are d k (get_or d k 0) 0 0 0 refl (get_or_past d (16320 + k) 0 (omega arith)) (get_or_past d (32640 + k) 0 (omega arith)) (get_or_past d (48960 + k) 0 (omega arith))
    ∙ omega arith

-- no digits
pub no_digits : (d : List ℕ) (k : ℕ) → ((i : ℕ) → get_or d i 0 ≡ 0) → digits_number d k ≡ 0
no_digits d k none = digits_are d k 0 0 0 0 (none k) (none (16320 + k)) (none (32640 + k)) (none (48960 + k)) ∙ omega arith

-- a run of places whose lowest digits are all there is
pub low_run : (d : List ℕ) (at len m n : ℕ) → m ≡ len → at + len ≤ 16320 → length d ≡ 16320
    → ((k : ℕ) → k < length (take m (drop at d)) → get_or (take m (drop at d)) k 0 ≡ n) → (k : ℕ) → k < len → digits_number d (at + k) ≡ n
low_run d at len m n same within size all k below =
    let room : m ≤ length (drop at d) = omega (arith, length-drop at d) in
    let is : get_or (take m (drop at d)) k 0 ≡ n = all k (omega (arith, length-take-le m (drop at d) room)) in
    low_digit d (at + k) size ∙ (sym (get_or-take m (drop at d) k 0 (omega arith) ∙ get_or-drop at d k 0) ∙ is)

-- the lowest digit of a place is one more
pub raised : (d : List ℕ) (at : ℕ) → at < 16320 → 16320 ≤ length d
    → Puts at (digits_number d at + 1) (digits_number d) (digits_number (set d at (get_or d at 0 + 1)))
unfolding digits_number
raised d at below some =
    let v = get_or d at 0 + 1 in
    let here : get_or (set d at v) at 0 ≡ v = get_or-set_same d at v 0 (omega arith) in
    let other : (k : ℕ) → k ≢ at → get_or (set d at v) k 0 ≡ get_or d k 0 = λ k apart. get_or-set_other d at k v 0 apart in
    record {
      put = omega (arith, here, other (16320 + at) (λ e. omega arith), other (32640 + at) (λ e. omega arith), other (48960 + at) (λ e. omega arith));
      others = λ k apart within.
          omega (arith, other k apart, other (16320 + k) (λ e. omega arith), other (32640 + k) (λ e. omega arith), other (48960 + k) (λ e. omega arith));
    }

-- the only digit of a place was put
pub low_put : (d : List ℕ) (at n : ℕ) → at < 16320 → length d ≡ 16320 → Puts at n (digits_number d) (digits_number (set d at n))
low_put d at n below size =
    let same : length (set d at n) ≡ 16320 = length-set d at n ∙ size in
    record {
      put = low_digit (set d at n) at same ∙ get_or-set_same d at n 0 (omega arith);
      others = λ k apart within. low_digit (set d at n) k same ∙ (get_or-set_other d at k n 0 apart ∙ sym (low_digit d k size));
    }

-- a digit was put
pub record PutsDigit (i digit : ℕ) (old new : List ℕ) : Type 0 where
  pub put : get_or new i 0 ≡ digit
  pub others : (k : ℕ) → k ≢ i → get_or new k 0 ≡ get_or old k 0

-- four digits make a number
four_digits : (n a b c e : ℕ) → a ≡ n % 256 → b ≡ n / 256 % 256 → c ≡ n / 256 / 256 % 256 → e ≡ n / 256 / 256 / 256
    → a + 256 * (b + 256 * (c + 256 * e)) ≡ n
four_digits n a b c e first second third fourth = omega arith

-- the four digits of a place were put
pub written : (at n : ℕ) (d0 d1 d2 d3 d4 : List ℕ) → at < 16320 → PutsDigit at (n % 256) d0 d1 → PutsDigit (16320 + at) (n / 256 % 256) d1 d2
    → PutsDigit (32640 + at) (n / 256 / 256 % 256) d2 d3 → PutsDigit (48960 + at) (n / 256 / 256 / 256) d3 d4 → Puts at n (digits_number d0) (digits_number d4)
written at n d0 d1 d2 d3 d4 below first second third fourth = record {
  put =
      digits_are d4 at (n % 256) (n / 256 % 256) (n / 256 / 256 % 256) (n / 256 / 256 / 256)
      (fourth.others at (λ e. omega arith) ∙ (third.others at (λ e. omega arith) ∙ (second.others at (λ e. omega arith) ∙ first.put)))
      (fourth.others (16320 + at) (λ e. omega arith) ∙ (third.others (16320 + at) (λ e. omega arith) ∙ second.put))
      (fourth.others (32640 + at) (λ e. omega arith) ∙ third.put) fourth.put
      ∙ four_digits n _ _ _ _ refl refl refl refl;
  others = λ k other within.
      let same : (i : ℕ) → i ≢ at → i ≢ 16320 + at → i ≢ 32640 + at → i ≢ 48960 + at → get_or d4 i 0 ≡ get_or d0 i 0 =
      λ i a b c e. fourth.others i e ∙ (third.others i c ∙ (second.others i b ∙ first.others i a)) in
      digits_same d4 d0 k (same k other (λ e. omega arith) (λ e. omega arith) (λ e. omega arith))
      (same (16320 + k) (λ e. omega arith) (λ e. other (omega arith)) (λ e. omega arith) (λ e. omega arith))
      (same (32640 + k) (λ e. omega arith) (λ e. omega arith) (λ e. other (omega arith)) (λ e. omega arith))
      (same (48960 + k) (λ e. omega arith) (λ e. omega arith) (λ e. omega arith) (λ e. other (omega arith)));
}

-- a number was put behind digits that have the same ones
pub puts_same : (old mid : List ℕ) (at n : ℕ) (g : ℕ → ℕ) → ((k : ℕ) → get_or mid k 0 ≡ get_or old k 0) → Puts at n (digits_number mid) g → Puts at n (digits_number old) g
puts_same old mid at n g same puts = record {
  put = puts.put;
  others = λ k other within. puts.others k other within ∙ digits_same mid old k (same k) (same (16320 + k)) (same (32640 + k)) (same (48960 + k));
}

-- a test as a number
one_of : (b : Bool) (n : ℕ) → n ≡ from_bool b → n ≡ cond b 1 0
one_of true n is = is
one_of false n is = is

-- one place more of those that are counted
pub zeros_more : (f : ℕ → ℕ) (n zeros m one : ℕ) → m ≡ f n → one ≡ from_bool (eqb m 0)
    → (zeros ≡ count_by (λ n. eqb n 0) (map f (range_with_len 0 n))) × (zeros ≤ n)
    → (zeros + one ≡ count_by (λ n. eqb n 0) (map f (range_with_len 0 (n + 1)))) × (zeros + one ≤ n + 1)
zeros_more f n zeros m one is test so_far =
    let t : one ≡ cond (eqb (f n) 0) 1 0 = one_of (eqb m 0) one test ∙ ap (λ (x : ℕ). cond (eqb x 0) 1 0) is in
    let next = sum_by-map-range_with_len_more (λ n. cond (eqb n 0) 1 0) f 0 n n (omega arith) in
    (ap₂ (λ (a b : ℕ). a + b) so_far.0 t ∙ sym next, let most = so_far.1 in grind (arith, nat_tests))
