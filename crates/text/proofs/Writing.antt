-- Text written piece by piece.
use Prim.Native.Nat.{ℕ, ◌+◌, ◌≤◌, ◌<◌}
use mathlib.Core.Path.{◌≡◌, refl, subst, ap, ap₂, sym, ◌∙◌}
use mathlib.Core.Bool.{cond}
use mathlib.Core.List.{List, [], ◌∷◌, ◌++◌, append_assoc, append-nil}
use native.Mathlib.Numerals.{add-one}
use native.Mathlib.Omega.{arith}
use lib.Dec.{eqb}
use lib.ListN.{length, take, drop, get_or, set, length-append, length-set, take-append-drop}
use lib.Seq.{set_split, set-set, take_at, drop_at, drop-drop, take_all, take-length, length-take-le}
use lib.Seq.{paste, paste-suc, length-paste}
use Rattle.std.proofs.lemmas.List.{take_more}
use Rattle.std.specs.Prelude.{Option, None, Some}
use borrow.Author.Tests.{eq-eqb, ne_eqb}
use Rattle.calendar.proofs.Rising.{by_order}
use Rattle.text.specs.Decimal.{decimal}
use Rattle.text.specs.Piece.{word, field, letter_of, year, title, star, month, numbered, fields, newline, last_field, texts_up_to}
use Rattle.text.specs.Wrote.{Wrote}

-- One byte.
pub wrote_byte : (b : List ℕ) (at x : ℕ) → at < length b → Wrote b at (x ∷ []) (set b at x) (at + 1)
wrote_byte b at x h =
    record {
      is = set_split b at x h ∙ ap (λ n. take at b ++ (x ∷ drop n b)) (sym (add-one at));
      ends = refl;
      fits = omega arith;
      same_length = length-set b at x;
    }

-- What stands before the end of a text, and after it.
module _ (b a x : List ℕ) (at e : ℕ) (w : Wrote b at x a e) where
  ends_there : length (take at b ++ x) ≡ e
  ends_there = length-append (take at b) x ∙ ap (λ n. n + length x) (length-take-le at b (omega (arith, w))) ∙ sym w.ends

  in_two : a ≡ (take at b ++ x) ++ drop (at + length x) b
  in_two = w.is ∙ sym (append_assoc (take at b) x (drop (at + length x) b))

  pub wrote_front : take e a ≡ take at b ++ x
  wrote_front = ap (take e) in_two ∙ take_at (take at b ++ x) (drop (at + length x) b) e ends_there

  after_text : drop e a ≡ drop (at + length x) b
  after_text = ap (drop e) in_two ∙ drop_at (take at b ++ x) (drop (at + length x) b) e ends_there

  pub wrote_back : drop e a ≡ drop e b
  wrote_back = after_text ∙ ap (λ n. drop n b) (sym w.ends)

-- One piece after another.
pub wrote_then : {b m a x y : List ℕ} {at p e : ℕ} → Wrote b at x m p → Wrote m p y a e → Wrote b at (x ++ y) a e
wrote_then {b} {m} {a} {x} {y} {at} {p} {e} w v =
    let far : at + length x + length y ≡ at + length (x ++ y) = omega (arith, length-append x y) in
    let rest : drop (p + length y) m ≡ drop (at + length (x ++ y)) b =
    sym (drop-drop (length y) p m)
    ∙ ap (drop (length y)) (after_text b m x at p w)
    ∙ drop-drop (length y) (at + length x) b
    ∙ ap (λ n. drop n b) far
    in
    record {
      is =
          v.is
          ∙ ap₂ (λ f r. f ++ (y ++ r)) (wrote_front b m x at p w) rest
          ∙ append_assoc (take at b) x (y ++ drop (at + length (x ++ y)) b)
          ∙ ap (λ t. take at b ++ t) (sym (append_assoc x y (drop (at + length (x ++ y)) b)));
      ends = omega (arith, w.ends, v.ends, length-append x y);
      fits = omega (arith, v.fits, w.same_length);
      same_length = v.same_length ∙ w.same_length;
    }

-- A text told otherwise.
pub wrote_as : {b a x y : List ℕ} {at e : ℕ} → x ≡ y → Wrote b at x a e → Wrote b at y a e
wrote_as {b} {a} {x} {y} {at} {e} same w = subst (λ t. Wrote b at t a e) same w

-- Two bytes, or the second alone written over the first.
pub wrote_pair : (b : List ℕ) (at both x y : ℕ) → at + 2 ≤ length b → both ≤ 1
    → Wrote b at (cond (eqb both 0) (y ∷ []) (x ∷ y ∷ [])) (set (set b at x) (at + both) y) (at + both + 1)
wrote_pair b at both x y h l =
    by_order both 1
    (λ z.
    let zero_both : both ≡ 0 = omega arith in
    let here : at + 0 ≡ at = omega arith in
    subst (λ k. Wrote b at (cond (eqb k 0) (y ∷ []) (x ∷ y ∷ [])) (set (set b at x) (at + k) y) (at + k + 1)) (sym zero_both)
    (subst (λ k. Wrote b at (y ∷ []) (set (set b at x) k y) (k + 1)) (sym here)
    (subst (λ t. Wrote b at (y ∷ []) t (at + 1)) (sym (set-set b at x y)) (wrote_byte b at y (omega arith)))))
    (λ z.
    let one_both : both ≡ 1 = omega arith in
    subst (λ k. Wrote b at (cond (eqb k 0) (y ∷ []) (x ∷ y ∷ [])) (set (set b at x) (at + k) y) (at + k + 1)) (sym one_both)
    (wrote_then (wrote_byte b at x (omega arith)) (wrote_byte (set b at x) (at + 1) y (omega (arith, length-set b at x)))))

-- No text at all.
pub wrote_none : (b : List ℕ) (at : ℕ) → at ≤ length b → Wrote b at [] b at
wrote_none b at h =
    let here : at ≡ at + 0 = omega arith in
    record {
      is = subst (λ n. b ≡ take at b ++ drop n b) here (sym (take-append-drop at b));
      ends = here;
      fits = h;
      same_length = refl;
    }

-- A space and a number.
pub wrote_field : {b m a : List ℕ} {at p e : ℕ} (n : ℕ) → Wrote b at (32 ∷ []) m p → Wrote m p (decimal n) a e → Wrote b at (field n) a e
unfolding field
wrote_field n w v = wrote_then w v

-- A year after the byte of its system's letter.
pub wrote_year : {b m a : List ℕ} {at p e byte : ℕ} (system n : ℕ) → byte ≡ letter_of system → Wrote b at (byte ∷ []) m p
    → Wrote m p (field n) a e → Wrote b at (year system n) a e
unfolding year
wrote_year system n is w v = wrote_then (wrote_as (λ i. is i ∷ []) w) v

-- The first line of a page.
pub wrote_title : {b m₁ m₂ a : List ℕ} {at p₁ p₂ e : ℕ} (bytes : List ℕ) (system n : ℕ) → Wrote b at (word bytes) m₁ p₁
    → Wrote m₁ p₁ (year system n) m₂ p₂
    → Wrote m₂ p₂ newline a e
    → Wrote b at (title bytes system n) a e
unfolding title
wrote_title bytes system n w y end = wrote_then w (wrote_then y end)

-- A month with no star, and one with it.
pub wrote_no_star : {b : List ℕ} {at : ℕ} (leap : ℕ) → leap ≡ 0 → at ≤ length b → Wrote b at (star leap) b at
wrote_no_star {b} {at} leap z h = simp (eq-eqb leap 0 z) (wrote_none b at h)

pub wrote_star : {b a : List ℕ} {at e : ℕ} (leap : ℕ) → (leap ≡ 0 → ⊥) → Wrote b at (42 ∷ []) a e → Wrote b at (star leap) a e
wrote_star leap z w = simp (ne_eqb leap 0 z) w

pub wrote_month : {b m a : List ℕ} {at p e : ℕ} (number leap : ℕ) → Wrote b at (field number) m p → Wrote m p (star leap) a e
    → Wrote b at (month number leap) a e
unfolding month
wrote_month number leap w v = wrote_then w v

-- A word and a number after it.
pub wrote_numbered : {b m a : List ℕ} {at p e : ℕ} (bytes : List ℕ) (n : ℕ) → Wrote b at (word bytes) m p → Wrote m p (field n) a e
    → Wrote b at (numbered bytes n) a e
unfolding numbered
wrote_numbered bytes n w v = wrote_then w v

-- The last field of a line, by whether there is a number.
module _ {b a : List ℕ} {at e : ℕ} {told : Option ℕ} where
  pub wrote_dash : told ≡ None → Wrote b at (word (32 ∷ 45 ∷ newline)) a e → Wrote b at (last_field told) a e
  unfolding last_field word
  wrote_dash is w = wrote_as (ap last_field (sym is)) w

  pub wrote_last : {m : List ℕ} {p n : ℕ} → told ≡ Some n → Wrote b at (field n) m p → Wrote m p newline a e
      → Wrote b at (last_field told) a e
  unfolding last_field
  wrote_last is w v = wrote_as (ap last_field (sym is)) (wrote_then w v)

-- A field more.
fields_after : (numbers : List ℕ) (n : ℕ) → fields (numbers ++ n ∷ []) ≡ fields numbers ++ field n
unfolding fields
fields_after [] n = append-nil (field n)
fields_after (first ∷ numbers) n =
    ap (λ t. field first ++ t) (fields_after numbers n) ∙ sym (append_assoc (field first) (fields numbers) (field n))

pub wrote_more_fields : {b m a : List ℕ} {at p e : ℕ} (numbers : List ℕ) (i : ℕ) → i < length numbers
    → Wrote b at (fields (take i numbers)) m p → Wrote m p (field (get_or numbers i 0)) a e
    → Wrote b at (fields (take (i + 1) numbers)) a e
wrote_more_fields numbers i h w v =
    let more : fields (take i numbers) ++ field (get_or numbers i 0) ≡ fields (take (i + 1) numbers) =
    sym (ap fields (take_more numbers i 0 h) ∙ fields_after (take i numbers) (get_or numbers i 0))
    in
    wrote_as more (wrote_then w v)

pub wrote_all_fields : {b a : List ℕ} {at e : ℕ} (numbers : List ℕ) (i : ℕ) → length numbers ≤ i
    → Wrote b at (fields (take i numbers)) a e → Wrote b at (fields numbers) a e
wrote_all_fields numbers i h w = wrote_as (ap fields (take_all i numbers h)) w

-- Text copied byte by byte.
pub copied_more : {o : List ℕ} (b : List ℕ) (at : ℕ) (text : List ℕ) (i : ℕ) → o ≡ paste b at text i → at + length text ≤ length b
    → i < length text → set o (at + i) (get_or text i 0) ≡ paste b at text (i + 1)
copied_more b at text i e h l =
    ap (λ o. set o (at + i) (get_or text i 0)) e
    ∙ paste-suc b at text i 0 (omega arith) (omega arith)
    ∙ ap (paste b at text) (sym (add-one i))

pub wrote_copied : {o : List ℕ} (b : List ℕ) (at : ℕ) (text : List ℕ) (i : ℕ) → o ≡ paste b at text i → at + length text ≤ length b
    → i ≡ length text → Wrote b at (word text) o (at + length text)
unfolding word
wrote_copied {o} b at text i e h all =
    let whole : o ≡ paste b at text (length text) = e ∙ ap (paste b at text) all in
    record {
      is =
          whole
          ∙ append_assoc (take at b) (take (length text) text) (drop (at + length text) b)
          ∙ ap (λ t. take at b ++ (t ++ drop (at + length text) b)) (take-length text);
      ends = refl;
      fits = h;
      same_length = ap length whole ∙ length-paste b at text (length text) h (omega arith);
    }

-- Texts in order: none yet, one more, and all.
module _ (text : ℕ → List ℕ) where
  pub wrote_no_texts : {b : List ℕ} {at : ℕ} → at ≤ length b → Wrote b at (texts_up_to text 0) b at
  unfolding texts_up_to
  wrote_no_texts {b} {at} h = wrote_none b at h

  pub wrote_one_more : {b m a : List ℕ} {at p e : ℕ} (n : ℕ)
      → Wrote b at (texts_up_to text n) m p → Wrote m p (text n) a e → Wrote b at (texts_up_to text (n + 1)) a e
  unfolding texts_up_to
  wrote_one_more n w v = rw (add-one n) (wrote_then w v)

  pub wrote_all_texts : {b a : List ℕ} {at e : ℕ} (n count : ℕ) → n ≡ count → Wrote b at (texts_up_to text n) a e
      → Wrote b at (texts_up_to text count) a e
  wrote_all_texts n count all w = wrote_as (ap (texts_up_to text) all) w
