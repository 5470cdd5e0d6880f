-- A frame's bytes and nothing else. Assumes nothing.
use mathlib.Core.Path.{◌≡◌, sym, ap, ap₂, subst, ◌∙◌}
use mathlib.Core.Bool.{Bool, true, cond, ◌&&◌, and-eq-true_iff}
use mathlib.Core.List.{List, [], ◌++◌, append-nil}
use Prim.Native.Nat.{ℕ, ◌≤◌}
use native.Mathlib.Omega.{arith}
use borrow.Author.Tests.{eq-eqb, eqb-true}
use lib.ListN.{length, drop, drop_of_length-le}
use Rattle.sequences.specs.Bytes.{Bytes}
use Rattle.fronts.specs.Frame.{max_data, frame_size, Frame, encode, length_at, frame_at}
use Rattle.fronts.specs.Fronts.{front_of, is_whole}
use Rattle.frames.specs.Buffer.{whole_at, data_at, alone_at, version_at, command_at, OneFrame, ReadsAlone}
use Rattle.fronts.proofs.Fronts.{is-whole, whole-passed}
use Rattle.fronts.proofs.Sizes.{encode-size}
use Rattle.fronts.proofs.Encodings.{frame_encoded, front_encoded, encoded_whole, payload-size}

module _ (f : Frame) (small : length f.payload ≤ max_data) where
  whole : whole_at (encode f) ≡ true
  unfolding whole_at
  whole = ap is_whole (sym (ap front_of (append-nil (encode f))) ∙ front_encoded f [] small)

  fields : frame_at (encode f) ≡ f
  fields = sym (ap frame_at (append-nil (encode f))) ∙ frame_encoded f []

  pub version_encoded : version_at (encode f) ≡ f.version
  unfolding version_at
  version_encoded = ap₂ (λ (b : Bool) (g : Frame). cond b g.version 0) whole fields

  pub command_encoded : command_at (encode f) ≡ f.command
  unfolding command_at
  command_encoded = ap₂ (λ (b : Bool) (g : Frame). cond b g.command 0) whole fields

  pub data_encoded : data_at (encode f) ≡ f.payload
  unfolding data_at
  data_encoded = ap₂ (λ (b : Bool) (g : Frame). cond b g.payload []) whole fields

  pub alone_encoded : alone_at (encode f) ≡ true
  unfolding alone_at
  alone_encoded = ap₂ ◌&&◌ whole (eq-eqb _ _ (ap (λ (p : List ℕ). frame_size (length p)) data_encoded ∙ sym (encode-size f)))

one-frame : (s : List ℕ) → Bytes s → alone_at s ≡ true → OneFrame s
unfolding alone_at whole_at data_at
one-frame s bytes e =
    let parts = (and-eq-true_iff (whole_at s) _).0 e in
    let w = is-whole (front_of s) parts.0 in
    let size = payload-size s w in
    let passed = whole-passed s w in
    let end : frame_size (length_at s) ≡ length s =
    ap frame_size (sym size) ∙ ap (λ (b : Bool). frame_size (length (cond b (frame_at s).payload []))) (sym parts.0)
    ∙ eqb-true _ _ parts.1 in
    let past : length s ≤ frame_size (length_at s) = omega arith in
    let none : drop (frame_size (length_at s)) s ≡ [] = drop_of_length-le s past in
    record {
      frame = frame_at s;
      small = omega (arith, passed.small);
      is = sym (append-nil (encode (frame_at s))) ∙ ap (λ (t : List ℕ). encode (frame_at s) ++ t) (sym none) ∙ encoded_whole s bytes w;
    }

pub reads-alone : ReadsAlone
reads-alone =
    record {
      means = λ s bytes. (one-frame s bytes, λ o. subst (λ (t : List ℕ). alone_at t ≡ true) o.is (alone_encoded o.frame o.small));
      version = version_encoded;
      command = command_encoded;
      «data» = data_encoded;
    }
