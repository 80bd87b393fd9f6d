-- The checks answer in their order. Assumes nothing.
use Rattle.std.proofs.Common.{sym, ◌∙◌, refl, true, false, le-ltb, lt-ltb}
use Rattle.shop.specs.Shapes.{sheet_of}
use Rattle.rights.specs.Answers.{checked_by, may_bit}
use Rattle.rights.specs.Values.{edit_of, table_of}
use Rattle.rights.proofs.refusal_of.Goals as goal

pub returns-then-not-check_sheet-clause-number : goal.returns-then-not-check_sheet-clause-number
returns-then-not-check_sheet-clause-number c =
    checked_by (table_of c.args.rights.now) (sheet_of c.args.attached.now c.args.sheet) (edit_of c.args.user c.args.slot c.args.field c.args.content) false _ _ _ _
    (sym c.if-not-check_sheet.ensures) refl refl refl refl

pub returns-then-user-ge-USERS_HERE-clause-number : goal.returns-then-user-ge-USERS_HERE-clause-number
returns-then-user-ge-USERS_HERE-clause-number c =
    checked_by (table_of c.args.rights.now) (sheet_of c.args.attached.now c.args.sheet) (edit_of c.args.user c.args.slot c.args.field c.args.content) true false _ _ _
    (sym c.if-not-check_sheet.ensures) (le-ltb _ _ c.if-user-ge-USERS_HERE.true) refl refl refl

pub returns-then-slot-ge-SLOTS_HERE-clause-number : goal.returns-then-slot-ge-SLOTS_HERE-clause-number
returns-then-slot-ge-SLOTS_HERE-clause-number c =
    checked_by (table_of c.args.rights.now) (sheet_of c.args.attached.now c.args.sheet) (edit_of c.args.user c.args.slot c.args.field c.args.content) true true false _ _
    (sym c.if-not-check_sheet.ensures) (lt-ltb _ _ c.if-user-ge-USERS_HERE.false) (le-ltb _ _ c.if-slot-ge-SLOTS_HERE.true) refl refl

pub returns-then-not-has_right-clause-number : goal.returns-then-not-has_right-clause-number
returns-then-not-has_right-clause-number c =
    checked_by (table_of c.args.rights.now) (sheet_of c.args.attached.now c.args.sheet) (edit_of c.args.user c.args.slot c.args.field c.args.content) true true true false _
    (sym c.if-not-check_sheet.ensures) (lt-ltb _ _ c.if-user-ge-USERS_HERE.false) (lt-ltb _ _ c.if-slot-ge-SLOTS_HERE.false)
    (may_bit c.args.rights.now c.args.user c.args.slot c.args.field c.args.content _ c.right_for.ensures ∙ sym c.if-not-has_right.ensures) refl

pub returns-then-not-content_ok-clause-number : goal.returns-then-not-content_ok-clause-number
returns-then-not-content_ok-clause-number c =
    checked_by (table_of c.args.rights.now) (sheet_of c.args.attached.now c.args.sheet) (edit_of c.args.user c.args.slot c.args.field c.args.content) true true true true false
    (sym c.if-not-check_sheet.ensures) (lt-ltb _ _ c.if-user-ge-USERS_HERE.false) (lt-ltb _ _ c.if-slot-ge-SLOTS_HERE.false)
    (may_bit c.args.rights.now c.args.user c.args.slot c.args.field c.args.content _ c.right_for.ensures ∙ sym c.if-not-has_right.ensures) (sym c.if-not-content_ok.ensures)

pub returns-clause-number : goal.returns-clause-number
returns-clause-number c =
    checked_by (table_of c.args.rights.now) (sheet_of c.args.attached.now c.args.sheet) (edit_of c.args.user c.args.slot c.args.field c.args.content) true true true true true
    (sym c.if-not-check_sheet.ensures) (lt-ltb _ _ c.if-user-ge-USERS_HERE.false) (lt-ltb _ _ c.if-slot-ge-SLOTS_HERE.false)
    (may_bit c.args.rights.now c.args.user c.args.slot c.args.field c.args.content _ c.right_for.ensures ∙ sym c.if-not-has_right.ensures) (sym c.if-not-content_ok.ensures)
