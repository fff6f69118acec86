-- Text put into an output where there is room for it.
use Prim.Native.Nat.{ℕ, ◌+◌, ◌-◌, ◌≤◌, ◌<◌}
use denote.MutBor.{MutBor}
use Rattle.std.specs.Fn.{Once, FnOnceReturnsAtMut}
use mathlib.Core.Path.{◌≡◌, refl, subst, ap, sym, ◌∙◌}
use mathlib.Core.Bool.{Bool, true, false}
use mathlib.Core.List.{List, [], ◌++◌}
use native.Mathlib.Omega.{arith}
use lib.ListN.{length, take, drop, length-append, length-drop}
use lib.Seq.{length-take-le}
use lib.Dec.{leb, ltb}
use borrow.Author.Tests.{le-leb, leb-true, lt-ltb, le-ltb, ltb-false, eq-eqb, ne_eqb}
use Rattle.calendar.proofs.Rising.{by_order}
use Rattle.text.specs.Piece.{refused_line, told_unless}
use Rattle.text.specs.Wrote.{Wrote}
use Rattle.text.proofs.Writing.{wrote_none, wrote_then}
use Rattle.text.specs.Put.{put_into, put_end, Put}

-- Where a test for too little room failed, there is room.
pub has_room : (size needed : ℕ) {short : Bool} → short ≡ ltb size needed → short ≡ false → needed ≤ size
has_room size needed test e = ltb-false size needed (sym test ∙ e)

-- Text that finds room, and text that finds none, by the test for it.
module _ {before : List ℕ} {at room : ℕ} {text : List ℕ} {short : Bool} (test : short ≡ ltb (length before) (at + room)) where
  pub put_none : short ≡ true → Put before at room text before at
  unfolding put_into put_end
  put_none e =
      let none : ltb (length before) (at + room) ≡ true = sym test ∙ e in
      record { is = simp none; ends = simp none; near = omega arith }

  pub put_text : {after : List ℕ} {end : ℕ} → short ≡ false → Wrote before at text after end × (end ≤ at + room)
      → Put before at room text after end
  unfolding put_into put_end
  put_text e w =
      let some : ltb (length before) (at + room) ≡ false = sym test ∙ e in
      record { is = simp some w.0.is; ends = simp some w.0.ends; near = w.1 }

-- Text that a closure puts, where there is room for it.
pub put_by : {F : Type 0} {g : Once F (MutBor (List ℕ) × Unit {0}) (ℕ × (MutBor (List ℕ) × Unit {0}))} {f : F} {before text after : List ℕ} {at room end : ℕ}
    → (length before < at + room → (after ≡ before) × (end ≡ at))
    → (at + room ≤ length before → FnOnceReturnsAtMut g f before end after)
    → ((x y : MutBor (List ℕ)) → x.now ≡ before → at + room ≤ length x.now → g.post f (x, tt) (end, (y, tt)) → Wrote x.now at text y.now end × (end ≤ at + room))
    → Put before at room text after end
put_by {before = before} {text = text} {after = after} {at = at} {room = room} {end = end} short put writes =
    by_order (length before) (at + room)
    (λ l.
    let none = short l in
    let left : Put before at room text before at = put_none (sym (lt-ltb (length before) (at + room) l)) refl in
    subst (λ e. Put before at room text after e) (sym none.1) (subst (λ t. Put before at room text t at) (sym none.0) left))
    (λ enough.
    let r = put enough in
    let enough_there : at + room ≤ length r.shown.now = subst (λ t. at + room ≤ length t) (sym r.shows) enough in
    let w = writes r.shown r.left r.shows enough_there r.met in
    let v = subst (λ t. Wrote t at text r.left.now end × (end ≤ at + room)) r.shows w in
    let u = subst (λ t. Wrote before at text t end × (end ≤ at + room)) r.leaves v in
    put_text (sym (le-ltb (length before) (at + room) enough)) refl u)

-- No text changes nothing, room or not.
pub put_nothing : (b : List ℕ) (at room : ℕ) → Put b at room [] b at
put_nothing b at room =
    by_order (length b) (at + room)
    (λ short. put_none (sym (lt-ltb (length b) (at + room) short)) refl)
    (λ enough. put_text (sym (le-ltb (length b) (at + room) enough)) refl (wrote_none b at (omega arith), omega arith))

-- With room, the text was written.
pub put_wrote : {before text after : List ℕ} {at room end : ℕ} → Put before at room text after end → at + room ≤ length before
    → Wrote before at text after end
unfolding put_into put_end
put_wrote {before} {text} {after} {at} {room} {end} p h =
    let is : after ≡ take at before ++ (text ++ drop (at + length text) before) = p.is ∙ simp (le-ltb (length before) (at + room) h) in
    let ends : end ≡ at + length text = p.ends ∙ simp (le-ltb (length before) (at + room) h) in
    let rest = drop (at + length text) before in
    record {
      is = is;
      ends = ends;
      fits = omega (arith, p.near);
      same_length = omega (
        arith,
        p.near,
        ap length is,
        length-append (take at before) (text ++ rest),
        length-append text rest,
        length-take-le at before (omega arith),
        length-drop (at + length text) before,
      );
    }

-- Text put piece by piece is written, where the room is enough for the room of each piece.
pub record Puts (before : List ℕ) (at rooms : ℕ) (text after : List ℕ) (end : ℕ) : Type 0 where
  pub wrote : at + rooms ≤ length before → Wrote before at text after end × (end ≤ at + rooms)

pub put_last : {b x a : List ℕ} {at room rooms e : ℕ} → Put b at room x a e → leb room rooms ≡ true → Puts b at rooms x a e
put_last {room = room} {rooms = rooms} q l =
    let enough = leb-true room rooms l in
    record { wrote = λ h. (put_wrote q (omega arith), omega (arith, q.near)) }

-- The line of a refusal, by the number that stands for it.
pub put_number : {b a : List ℕ} {at rooms e number refusal : ℕ} → number ≡ refusal → Put b at 19 (refused_line number) a e
    → leb 19 rooms ≡ true
    → Puts b at rooms (refused_line refusal) a e
put_number {b} {a} {at} {rooms} {e} is q l = subst (λ n. Puts b at rooms (refused_line n) a e) is (put_last q l)

pub put_then : {b x m y a : List ℕ} {at room p rooms e : ℕ} → Put b at room x m p → leb room rooms ≡ true
    → Puts m p (rooms - room) y a e
    → Puts b at rooms (x ++ y) a e
put_then {room = room} {rooms = rooms} q l others =
    let enough = leb-true room rooms l in
    record {
      wrote =
          λ h.
          let w = put_wrote q (omega arith) in
          let v = others.wrote (omega (arith, w.same_length, q.near)) in
          (wrote_then w v.0, omega (arith, q.near, v.1));
    }

-- Three pieces at once: a search piece by piece grows too long.
pub put_three : {b x₁ m₁ x₂ m₂ x₃ a : List ℕ} {at r₁ p₁ r₂ p₂ r₃ e rooms : ℕ}
    → Put b at r₁ x₁ m₁ p₁
    → Put m₁ p₁ r₂ x₂ m₂ p₂
    → Put m₂ p₂ r₃ x₃ a e
    → leb (r₁ + (r₂ + r₃)) rooms ≡ true
    → Puts b at rooms (x₁ ++ (x₂ ++ x₃)) a e
put_three {r₁ = r₁} {r₂ = r₂} {r₃ = r₃} {rooms = rooms} q₁ q₂ q₃ l =
    let enough = leb-true (r₁ + (r₂ + r₃)) rooms l in
    put_then q₁ (le-leb r₁ rooms (omega arith))
    (put_then q₂ (le-leb r₂ (rooms - r₁) (omega arith))
    (put_last q₃ (le-leb r₃ (rooms - r₁ - r₂) (omega arith))))

pub all_put : {b x a : List ℕ} {at e rooms : ℕ} → Puts b at rooms x a e → at + rooms ≤ length b
    → Wrote b at x a e × (e ≤ at + rooms)
all_put pieces h = pieces.wrote h

-- What is told of the answer that was asked for, from the answer that was got.
module _ {A : Type 0} (refusal : A → ℕ) (text : A → List ℕ) where
  abbrev told_of : A → List ℕ
  told_of v = told_unless (refusal v) (text v)

  module _ {got asked : A} (is : got ≡ asked) {b a : List ℕ} {at e : ℕ} where
    pub put_refusal : {rooms : ℕ} → (refusal got ≡ 0 → ⊥) → Puts b at rooms (refused_line (refusal got)) a e
        → Puts b at rooms (told_of asked) a e
    put_refusal {rooms} h w = subst (λ v. Puts b at rooms (told_of v) a e) is (simp (ne_eqb (refusal got) 0 h) w)

    pub wrote_told : refusal got ≡ 0 → Wrote b at (text got) a e → Wrote b at (told_of asked) a e
    wrote_told h w = subst (λ v. Wrote b at (told_of v) a e) is (simp (eq-eqb (refusal got) 0 h) w)
