pub mod Invoices
pub mod Pairings
pub mod Reconciliation
pub mod Totals
